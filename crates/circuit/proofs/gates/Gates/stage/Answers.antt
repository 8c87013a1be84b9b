use Rattle.std.proofs.Common.{◌∙◌, refl, ap, arith}
use Rattle.circuit.specs.Prelude.{lit_truth, at, moved}
use Rattle.circuit.proofs.Values.{word_reach-at}
use Rattle.circuit.proofs.Meanings.{moved_truth, stage_truth}
use Rattle.circuit.proofs.Shifts.{power_stage}
use Rattle.circuit.proofs.gates.Gates.stage.Goals as goal

pub moved_word-moved-requires : goal.moved_word-moved-requires
moved_word-moved-requires c = let p = power_stage c.args.stage c.requires.within in omega (arith, p, c.amount_of.ensures)

pub bitwise-requires-clause-op_owned : goal.bitwise-requires-clause-op_owned
bitwise-requires-clause-op_owned c = let r = word_reach-at 32 c.args.stage c.args.by (omega arith) in omega (arith, r)

pub returns-clause-means : goal.returns-clause-means
returns-clause-means c = λ v h k l.
    let e = c.moved_word-moved.ensures.made ∙ ap (λ n. moved c.args.turn c.args.x n) c.amount_of.ensures in
    stage_truth (lit_truth (at c.args.by c.args.stage) v) _ _ _ _ _ (c.in_ok-out.ensures.means v h k l) (ap (λ w. lit_truth (at w k) v) e ∙ moved_truth c.args.turn c.args.x _ k v l) refl
