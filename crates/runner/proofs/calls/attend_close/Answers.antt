use Rattle.std.proofs.Common.{refl}
use Rattle.machines.specs.Prelude.{Close}
use Rattle.runner.proofs.Answering.{other_answered, within, beyond}
use Rattle.runner.proofs.calls.attend_close.Goals as goal

pub returns-then-call-le2-clause-answered : goal.returns-then-call-le2-clause-answered
returns-then-call-le2-clause-answered g c = λ step next s before shows told.
    other_answered (g.M.Machine.shows c.answer.new.self step) next s before told (Close c.args.call.fd) refl (rw (within c.args.call.fd c.if-call-le2.true) (c.answer.ensures.goes step _ next shows))

pub returns-else-call-le2-clause-answered : goal.returns-else-call-le2-clause-answered
returns-else-call-le2-clause-answered g c = λ step next s before shows told.
    other_answered (g.M.Machine.shows c.answer-else-call-le2.new.self step) next s before told (Close c.args.call.fd) refl (rw (beyond c.args.call.fd c.if-call-le2.false) (c.answer-else-call-le2.ensures.goes step _ next shows))
