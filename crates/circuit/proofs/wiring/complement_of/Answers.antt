use Rattle.std.proofs.Common.{rules, subst, sym, ◌<◌, ◌≤◌, length, arith, length-set}
use Rattle.circuit.specs.Prelude.{word_reach_below, word_of, not_bits}
use Rattle.circuit.proofs.Values.{wired_step, wired_none, whole, word_reach-at}
use Rattle.circuit.proofs.Meanings.{not_owned}
use Rattle.circuit.proofs.wiring.complement_of.Goals as goal

pub flip-requires : goal.flip-requires
flip-requires c = let r = word_reach-at 32 c.loop-i.i c.args.x (omega arith) in omega (arith, r)

pub loop-i-init : goal.loop-i-init
loop-i-init c = record { wide = search rules; made = wired_none (not_bits c.args.x) c.args.x }

pub loop-i-preserved : goal.loop-i-preserved
loop-i-preserved c =
    let inside : c.loop-i.i < length c.loop-i.out = omega arith in
    record {
      wide = omega (arith, length-set c.loop-i.out c.loop-i.i c.flip.result);
      made = wired_step (not_bits c.args.x) c.loop-i.i c.loop-i.out c.flip.result inside c.loop-i.invariant.made c.flip.ensures.made;
    }

pub returns-clause-made : goal.returns-clause-made
returns-clause-made c = whole (word_of (not_bits c.args.x)) c.loop-i.i c.loop-i.out (omega arith) c.loop-i.invariant.wide c.loop-i.invariant.made

pub returns-clause-owned : goal.returns-clause-owned
returns-clause-owned c = let e = whole (word_of (not_bits c.args.x)) c.loop-i.i c.loop-i.out (omega arith) c.loop-i.invariant.wide c.loop-i.invariant.made in subst (λ w. word_reach_below 32 w ≤ word_reach_below 32 c.args.x) (sym e) (not_owned c.args.x c.requires)
