use Rattle.std.proofs.Common.{rules, subst, sym, ◌<◌, ◌≤◌, false, length, arith, length-set}
use Rattle.circuit.specs.Prelude.{word_reach_below, at, word_of, moved_by, Const}
use Rattle.circuit.proofs.Values.{wired_step, wired_none, whole}
use Rattle.circuit.proofs.Meanings.{moved_owned}
use Rattle.circuit.proofs.wiring.moved_word.Goals as goal

pub loop-i-init : goal.loop-i-init
loop-i-init c = record { wide = search rules; made = wired_none (λ j. moved_by (Const false) c.args.turn c.args.n (at c.args.x) j) c.args.x }

pub loop-i-preserved : goal.loop-i-preserved
loop-i-preserved c =
    let inside : c.loop-i.i < length c.loop-i.out = omega arith in
    record {
      wide = omega (arith, length-set c.loop-i.out c.loop-i.i c.source.result);
      made = wired_step (λ j. moved_by (Const false) c.args.turn c.args.n (at c.args.x) j) c.loop-i.i c.loop-i.out c.source.result inside c.loop-i.invariant.made c.source.ensures;
    }

pub returns-clause-made : goal.returns-clause-made
returns-clause-made c = whole (word_of (λ j. moved_by (Const false) c.args.turn c.args.n (at c.args.x) j)) c.loop-i.i c.loop-i.out (omega arith) c.loop-i.invariant.wide c.loop-i.invariant.made

pub returns-clause-owned : goal.returns-clause-owned
returns-clause-owned c = let e = whole (word_of (λ j. moved_by (Const false) c.args.turn c.args.n (at c.args.x) j)) c.loop-i.i c.loop-i.out (omega arith) c.loop-i.invariant.wide c.loop-i.invariant.made in subst (λ w. word_reach_below 32 w ≤ word_reach_below 32 c.args.x) (sym e) (moved_owned c.args.turn c.args.x c.args.n _ c.requires (omega arith))
