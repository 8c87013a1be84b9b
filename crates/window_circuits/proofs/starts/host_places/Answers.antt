use Rattle.std.proofs.Common.{◌≡◌, ℕ, Bool, refl, sym, ◌∙◌, subst, arith}
use Rattle.circuit.specs.Prelude.{AllAgree}
use Rattle.place_circuits.specs.Places.{HoldsPlaces}
use Rattle.window_circuits.specs.Starts.{with_homes}
use Rattle.window_circuits.proofs.Starting.{places_later, homes_none, homes_one_more}
use Rattle.window_circuits.proofs.Made.{homes_made_none, homes_made_more}
use Rattle.window_circuits.proofs.starts.host_places.Goals as goal

pub loop-i-init : goal.loop-i-init
loop-i-init c = record {
  made = homes_made_none _ c.args.homes c.args.inputs.now c.args.gates.now.nodes.keys;
  later = record { grows = omega arith; earlier = λ v h. h; inputs = λ k h. h; opaque = refl };
  owned = c.requires.inputs_owned;
  inputs_owned = c.requires.inputs_owned;
  means = λ w t fits h. subst (HoldsPlaces w c.args.inputs.now) (sym (homes_none c.args.homes t)) h;
}

pub loop-i-preserved : goal.loop-i-preserved
loop-i-preserved c =
    let p = c.loop-i.invariant.later in
    let q = c.in_ok-byte.ensures.later in
    record {
      made = homes_made_more _ c.loop-i.i c.args.homes _ c.args.inputs.now c.args.gates.now.nodes.keys c.loop-i.places c.loop-i.gates.nodes.keys _ _ (omega arith) c.loop-i.invariant.made c.in_ok-byte.ensures.makes c.put.ensures.makes;
      later = record { grows = omega (arith, p.grows, q.grows); earlier = λ v h. p.earlier v (q.earlier v h); inputs = λ k h. q.inputs k (p.inputs k h); opaque = q.opaque ∙ p.opaque };
      owned = c.put.ensures.owned _ (places_later _ _ _ q.grows c.loop-i.invariant.owned) c.in_ok-byte.ensures.owned;
      inputs_owned = places_later _ _ _ q.grows c.loop-i.invariant.inputs_owned;
      means = λ w t fits h.
          let before = c.loop-i.invariant.means w t (q.earlier w fits) h in
          subst (HoldsPlaces w c.put.new.self) (homes_one_more c.loop-i.i c.args.homes _ t (omega arith)) (c.put.ensures.means w _ _ before (c.in_ok-byte.ensures.means w t fits h));
    }

pub returns-clause-means : goal.returns-clause-means
returns-clause-means c = let e : c.loop-i.i ≡ 20 = omega arith in
    subst (λ n. (w : ℕ → Bool) (t : ℕ → ℕ) → AllAgree c.loop-i.gates.nodes.keys w → HoldsPlaces w c.args.inputs.now t → HoldsPlaces w c.loop-i.places (with_homes n c.args.homes t)) e c.loop-i.invariant.means
