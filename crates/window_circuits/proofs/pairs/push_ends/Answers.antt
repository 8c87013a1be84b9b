use Rattle.std.proofs.Common.{◌≡◌, ◌<◌, length, refl, sym, ◌∙◌, subst, arith, get_or}
use Rattle.std.proofs.lemmas.List.{get_or_default}
use Rattle.std.proofs.lemmas.List.Elements.{All-from_get_or, All-get_or}
use Rattle.place_circuits.specs.Fields.{field_value}
use Rattle.window_circuits.specs.Rules.{IsEnd, no_end}
use Rattle.window_circuits.proofs.Starting.{places_later, one_more}
use Rattle.window_circuits.proofs.Paired.{owned_later}
use Rattle.window_circuits.proofs.Made.{ends_made_none, ends_made_more}
use Rattle.window_circuits.proofs.pairs.push_ends.Goals as goal

pub loop-i-init : goal.loop-i-init
loop-i-init c = record {
  made = ends_made_none _ c.args.ends.now c.args.window.now c.args.body.now _;
  later = record { grows = omega arith; earlier = λ v h. h; inputs = λ k h. h; opaque = refl };
  window_owned = c.requires.window_owned;
  body_owned = c.requires.body_owned;
  owned = c.requires.pairs_owned;
  alike = λ w t u fits g h a. (a, λ k l. absurd (omega (arith, l)));
}

pub loop-i-preserved : goal.loop-i-preserved
loop-i-preserved c =
    let i = c.loop-i.i in
    let ends = c.args.ends.now in
    let p = c.loop-i.invariant.later in
    let q = c.in_ok-from.ensures.later in
    let inside : i < length ends = omega arith in
    let end : IsEnd (get_or ends i no_end) = All-get_or IsEnd ends i no_end inside c.requires.ends in
    let body_owned = places_later _ _ _ q.grows c.loop-i.invariant.body_owned in
    let same = get_or_default ends i no_end _ inside in
    record {
      made = ends_made_more _ i ends _ c.args.window.now c.args.body.now _ c.loop-i.pairs.items c.loop-i.gates.nodes.keys _ _ inside c.loop-i.invariant.made c.in_ok-from.ensures.makes c.in_ok-push_word.ensures.pushed;
      later = record { grows = omega (arith, p.grows, q.grows); earlier = λ v h. p.earlier v (q.earlier v h); inputs = λ k h. q.inputs k (p.inputs k h); opaque = q.opaque ∙ p.opaque };
      window_owned = places_later _ _ _ q.grows c.loop-i.invariant.window_owned;
      body_owned = body_owned;
      owned = c.in_ok-push_word.ensures.owned _ (owned_later _ _ _ q.grows c.loop-i.invariant.owned) c.in_ok-from.ensures.owned (body_owned.each _ (subst (λ e. e.to < 64) same end.to));
      alike = λ w t u fits g h a.
          let s = (c.in_ok-push_word.ensures.alike w).0 a in
          let before = c.loop-i.invariant.alike w t u (q.earlier w fits) g h s.0 in
          let here = sym (c.in_ok-from.ensures.means w t fits g) ∙ s.1 ∙ h.each _ (subst (λ e. e.to < 64) same end.to) in
          (before.0, one_more (λ k. field_value (get_or ends k no_end).from t ≡ u (get_or ends k no_end).to) i before.1 (subst (λ e. field_value e.from t ≡ u e.to) (sym same) here));
    }

pub returns-clause-alike : goal.returns-clause-alike
returns-clause-alike c = λ w t u fits g h a.
    let r = c.loop-i.invariant.alike w t u fits g h a in
    (r.0, All-from_get_or (λ e. field_value e.from t ≡ u e.to) c.args.ends.now no_end (λ k l. r.1 k (omega (arith, l))))
