use Rattle.std.proofs.Common.{arith}
use Rattle.std.proofs.lemmas.Grind.{common_steps}
use Rattle.runner.proofs.Taking.{nothing_yet, more_from, taken_partly, taken_wholly, taken_to_end, taken_in_vain}
use Rattle.runner.proofs.Answering.{if_err}
use Rattle.runner.proofs.transfers.take_up_to.Goals as goal
use Rattle.runner.proofs.transfers.take_up_to.Goals.{else-loop-piece-test, then-loop-piece-test+in-Ok-eq0}

pub loop-piece-preserved : goal.loop-piece-preserved
loop-piece-preserved g c = record {
  some = grind (arith, common_steps);
  later = grind (arith, common_steps);
  taken = λ left e. rw (c.in_ok-extend_from_slice-in-Ok.ensures.items) (more_from _ _ left c.loop-piece.bytes.items c.take.new.into _ c.in-Ok.moved (c.in-Ok.ensures.bound).0 (c.loop-piece.invariant.taken left e) (c.in-Ok.ensures.bytes).0);
}

pub loop-piece-init : goal.loop-piece-init
loop-piece-init g c = record {
  some = grind (arith, common_steps);
  later = grind (arith, common_steps);
  taken = λ left e. rw (c.new-bytes.ensures.items) (nothing_yet _ left e);
}

pub returns-in-Err-clause-taken : goal.returns-in-Err-clause-taken
returns-in-Err-clause-taken g c = λ left e. taken_partly _ _ left c.loop-piece.bytes.items c.args.count c.loop-piece.invariant.some (c.loop-piece.invariant.taken left e) c.in-Err.ensures.bytes

pub returns-clause-taken : goal.returns-clause-taken
returns-clause-taken g c = λ left e.
    elim c.loop-piece-test.branch [
      | else-loop-piece-test w ↦ rw w.input-is (taken_wholly _ left c.loop-piece.bytes.items c.args.count (grind (arith, common_steps)) (c.loop-piece.invariant.taken left e))
      | then-loop-piece-test+in-Ok-eq0 w ↦ rw w.input-is (taken_to_end _ _ left c.loop-piece.bytes.items w.take.new.into c.args.count w.in-Ok-eq0.field-0 c.loop-piece.invariant.some (c.loop-piece.invariant.taken left e) w.in-Ok-eq0.field-0-test (w.in-Ok-eq0.ensures.bytes).0 ((w.in-Ok-eq0.ensures.bytes).1 w.in-Ok-eq0.field-0-test (grind (arith, common_steps))))
    ]

pub returns-in_err-extend_from_slice-in-Ok-clause-in_vain : goal.returns-in_err-extend_from_slice-in-Ok-clause-in_vain
returns-in_err-extend_from_slice-in-Ok-clause-in_vain g c = if_err c.from_residual.result _ (λ left e.
    taken_in_vain _ _ left c.loop-piece.bytes.items c.take.new.into c.args.count c.in-Ok.moved _ _ (grind (arith, common_steps)) (grind (arith, common_steps)) (c.loop-piece.invariant.taken left e) (c.in-Ok.ensures.bytes).0)
