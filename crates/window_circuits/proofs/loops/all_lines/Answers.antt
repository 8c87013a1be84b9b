use Rattle.std.proofs.Common.{◌≡◌, ℕ, length, refl, sym, subst, arith}
use Rattle.circuit.specs.Prelude.{AllAgree}
use Rattle.chosen_inputs.specs.Choices.{CanChoose, both, chosen_map, chosen_none_at}
use Rattle.access_circuits.specs.Bytes.{HoldsBytes}
use Rattle.row_runs.specs.Accesses.{always}
use Rattle.row_runs.specs.Bodies.{BodyRun, Pick, host_steps}
use Rattle.row_circuits.specs.Bodies.{ShowsBody}
use Rattle.window_circuits.specs.Starts.{ArePicks}
use Rattle.window_circuits.specs.Runs.{line_at}
use Rattle.window_circuits.proofs.Running.{bytes_later, untie-refl, untie-trans, host_none, host_one_more}
use Rattle.window_circuits.proofs.Made.{lines_made_none, lines_made_more}
use Rattle.window_circuits.proofs.loops.all_lines.Goals as goal

pub loop-i-init : goal.loop-i-init
loop-i-init c = record {
  made = lines_made_none _ c.args.lines.now c.args.bytes _;
  later = untie-refl _;
  owned = c.requires.body_owned;
  bytes_owned = c.requires.bytes_owned;
  means = λ run picks f h. chosen_none_at _ _ _ refl (λ w fits s b. subst (ShowsBody w c.args.body.now) (sym (host_none (always f) (line_at c.args.lines.now) picks run)) s);
}

pub loop-i-preserved : goal.loop-i-preserved
loop-i-preserved c =
    let i = c.loop-i.i in
    let k0 = c.args.gates.now.nodes.keys in
    let k1 = c.loop-i.gates.nodes.keys in
    let k2 = c.one_line.new.gates.nodes.keys in
    let p = c.loop-i.invariant.later in
    let q = c.in_ok-one_line.ensures.later in
    record {
      made = lines_made_more _ i c.args.lines.now _ c.args.bytes _ _ _ (omega arith) c.loop-i.invariant.made c.in_ok-one_line.ensures.makes;
      later = untie-trans k0 k1 k2 p q;
      owned = c.in_ok-one_line.ensures.owned;
      bytes_owned = bytes_later _ _ _ q.grows c.loop-i.invariant.bytes_owned;
      means = λ run picks f h.
          let run1 = host_steps i (always f) (line_at c.args.lines.now) picks run in
          let e = host_one_more i (always f) c.args.lines.now _ picks run (omega arith) in
          chosen_map k0 k2 _ _ (λ w r fits s b. subst (ShowsBody w c.one_line.new.body) e (r.1 fits (r.0 (q.earlier w fits) s b) b))
          (both k0 k1 k2 _ _ p.grows q.inputs (c.loop-i.invariant.means run picks f h) (c.in_ok-one_line.ensures.means run1 (picks i) f (h i)));
    }

pub returns-clause-means : goal.returns-clause-means
returns-clause-means c = let e : c.loop-i.i ≡ length c.args.lines.now = omega arith in
    subst (λ n. (run : BodyRun) (picks : ℕ → Pick) (f : ℕ → ℕ) → ArePicks picks → CanChoose c.args.gates.now.nodes.keys c.loop-i.gates.nodes.keys (λ w. AllAgree c.loop-i.gates.nodes.keys w → ShowsBody w c.args.body.now run → HoldsBytes w c.args.bytes f → ShowsBody w c.loop-i.body (host_steps n (always f) (line_at c.args.lines.now) picks run))) e c.loop-i.invariant.means
