use Rattle.std.proofs.Common.{arith}
use Rattle.std.proofs.lemmas.Grind.{common_steps}
use Rattle.machines.specs.Prelude.{Read}
use Rattle.runner.specs.Prelude.{with_input}
use Rattle.runner.proofs.Answering.{read_answered, taken_in_vain, other_answered, if_err}
use Rattle.runner.proofs.calls.attend_read.Goals as goal

pub returns-in_ok-read-clause-answered : goal.returns-in_ok-read-clause-answered
returns-in_ok-read-clause-answered g c = λ step next s before shows told.
    rw (c.if-call-eq0.true) (read_answered (g.M.Machine.shows c.read.new.machine step) next (with_input g.I.Source.left g.I.Source.faults s c.args.input.now) before told c.args.call.count _ _ (c.in_ok-read.ensures.answered step _ next before.left shows told.left))

pub returns-in_err-read-clause-in_vain : goal.returns-in_err-read-clause-in_vain
returns-in_err-read-clause-in_vain g c = if_err c.from_residual.result _ (λ s before told.
    taken_in_vain (with_input g.I.Source.left g.I.Source.faults s c.args.input.now) before told c.args.call.fd c.args.call.count c.if-call-eq0.true _ _ (c.in_err-read.ensures.in_vain before.left told.left))

pub returns-else-call-eq0-clause-answered : goal.returns-else-call-eq0-clause-answered
returns-else-call-eq0-clause-answered g c = λ step next s before shows told.
    other_answered (g.M.Machine.shows c.answer.new.self step) next _ before told (Read c.args.call.fd c.args.call.count) (grind (arith, common_steps)) (c.answer.ensures.goes step _ next shows)
