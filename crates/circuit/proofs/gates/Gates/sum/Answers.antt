use Rattle.std.proofs.Common.{rules, ◌<◌, length, arith, length-set}
use Rattle.word_kit.proofs.Later.{later-refl, later-trans}
use Rattle.circuit.specs.contracts.nodes.NodePartialEq.TheImpl.{ghosts}
use Rattle.circuit.proofs.Values.{sum_stands-zero, sum_stands-suc, word_reach-at, word_reach-zero, word_value-zero, reach_step, sum_step}
use Rattle.circuit.proofs.gates.Gates.sum.Goals as goal

pub full_sum-requires-clause-x_owned : goal.full_sum-requires-clause-x_owned
full_sum-requires-clause-x_owned c = let r = word_reach-at 32 c.loop-i.i c.args.x (omega arith) in omega (arith, r)

pub full_sum-requires-clause-y_owned : goal.full_sum-requires-clause-y_owned
full_sum-requires-clause-y_owned c = let r = word_reach-at 32 c.loop-i.i c.args.y (omega arith) in omega (arith, r)

pub loop-i-init : goal.loop-i-init
loop-i-init c = record {
  made = sum_stands-zero ghosts.eq _ c.args.x c.args.y c.args.carry _;
  wide = search rules;
  later = later-refl _;
  owned = rw (word_reach-zero c.args.x) (omega arith);
  over_owned = c.requires.carry_owned;
  means = λ v h. rw (word_value-zero c.args.x v, word_value-zero c.args.y v) (omega arith);
}

pub loop-i-preserved : goal.loop-i-preserved
loop-i-preserved c =
    let inside : c.loop-i.i < length c.loop-i.out = omega arith in
    record {
      made = sum_stands-suc ghosts.eq c.loop-i.i _ c.args.x c.args.y c.args.carry c.loop-i.out c.loop-i.over _ c.in_ok-bit.bit c.in_ok-bit.next _ inside c.loop-i.invariant.made c.in_ok-bit.ensures.made_sum c.in_ok-bit.ensures.made_carry c.in_ok-bit.ensures.held;
      wide = omega (arith, length-set c.loop-i.out c.loop-i.i c.in_ok-bit.bit);
      later = later-trans _ _ _ c.loop-i.invariant.later c.in_ok-bit.ensures.later;
      owned = reach_step c.loop-i.i c.loop-i.out c.in_ok-bit.bit _ inside (omega arith) c.in_ok-bit.ensures.sum_owned;
      over_owned = c.in_ok-bit.ensures.carry_owned;
      means = λ v h. sum_step c.loop-i.i c.loop-i.out c.args.x c.args.y v c.loop-i.over c.in_ok-bit.bit c.in_ok-bit.next _ inside
          (c.loop-i.invariant.means v (c.in_ok-bit.ensures.later.earlier v h)) (c.in_ok-bit.ensures.means v h);
    }
