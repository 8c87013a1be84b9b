use Rattle.machines.specs.Prelude.{answer_value}
use Rattle.runner.proofs.HostSteps.{answer_shows}
use Rattle.runner.proofs.host.Ia_stepMachineMachine.answer.Goals as goal

pub returns-clause-goes : goal.returns-clause-goes
returns-clause-goes c = λ step call next h. answer_shows c.args.self.now c.answer.new.self (answer_value c.args.answer) c.answer.ensures.shows step call next h
