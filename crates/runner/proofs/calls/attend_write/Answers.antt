use Rattle.std.proofs.Common.{arith}
use Rattle.std.proofs.lemmas.Grind.{common_steps}
use Rattle.machines.specs.Prelude.{Write}
use Rattle.runner.specs.Prelude.{with_output, with_errors}
use Rattle.runner.proofs.Answering.{output_answered, errors_answered, other_answered}
use Rattle.runner.proofs.calls.attend_write.Goals as goal

pub returns-in-1-clause-answered : goal.returns-in-1-clause-answered
returns-in-1-clause-answered g c = λ step bytes next s before shows len stand told.
    rw (c.in-1.is) (output_answered (g.M.Machine.shows c.write.new.machine step) next (with_errors g.E.Sink.shown g.E.Sink.faults (with_output g.O.Sink.shown g.O.Sink.faults s c.args.output.now) c.args.errors.now) before told bytes _ _ (c.write.ensures.answered step _ next bytes before.output shows len stand told.output))

pub returns-in-2-clause-answered : goal.returns-in-2-clause-answered
returns-in-2-clause-answered g c = λ step bytes next s before shows len stand told.
    rw (c.in-2.is) (errors_answered (g.M.Machine.shows c.write-in-2.new.machine step) next (with_errors g.E.Sink.shown g.E.Sink.faults (with_output g.O.Sink.shown g.O.Sink.faults s c.args.output.now) c.args.errors.now) before told bytes _ _ (c.write-in-2.ensures.answered step _ next bytes before.errors shows len stand told.errors))

pub returns-in_default-clause-answered : goal.returns-in_default-clause-answered
returns-in_default-clause-answered g c = λ step bytes next s before shows len stand told.
    other_answered (g.M.Machine.shows c.answer.new.self step) next _ before told (Write c.args.call.fd bytes) (grind (arith, common_steps)) (c.answer.ensures.goes step _ next shows)
