use Rattle.std.proofs.Common.{refl, arith}
use Rattle.word_kit.proofs.Later.{later-refl, later-trans}
use Rattle.circuit.specs.contracts.nodes.NodePartialEq.TheImpl.{ghosts}
use Rattle.circuit.proofs.Values.{equal_stands-zero, equal_stands-suc, word_reach-at, word_value-zero, equal_step}
use Rattle.circuit.proofs.gates.Gates.equality.Goals as goal

pub link-requires-clause-x_owned : goal.link-requires-clause-x_owned
link-requires-clause-x_owned c = let r = word_reach-at 32 c.loop-i.i c.args.x (omega arith) in omega (arith, r)

pub link-requires-clause-y_owned : goal.link-requires-clause-y_owned
link-requires-clause-y_owned c = let r = word_reach-at 32 c.loop-i.i c.args.y (omega arith) in omega (arith, r)

pub loop-i-init : goal.loop-i-init
loop-i-init c = record {
  made = equal_stands-zero ghosts.eq _ c.args.x c.args.y;
  later = later-refl _;
  owned = omega arith;
  means = λ v h. rw (word_value-zero c.args.x v, word_value-zero c.args.y v) refl;
}

pub loop-i-preserved : goal.loop-i-preserved
loop-i-preserved c = record {
  made = equal_stands-suc ghosts.eq c.loop-i.i _ c.args.x c.args.y c.loop-i.alike _ c.in_ok-next.next _ c.loop-i.invariant.made c.in_ok-next.ensures.made c.in_ok-next.ensures.held;
  later = later-trans _ _ _ c.loop-i.invariant.later c.in_ok-next.ensures.later;
  owned = c.in_ok-next.ensures.owned;
  means = λ v h. equal_step c.loop-i.i c.args.x c.args.y v c.loop-i.alike c.in_ok-next.next (c.loop-i.invariant.means v (c.in_ok-next.ensures.later.earlier v h)) (c.in_ok-next.ensures.means v h);
}
