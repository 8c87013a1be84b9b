use Rattle.runner.proofs.GuestSteps.{step_shows}
use Rattle.runner.proofs.guest.Ppc_stepMachineMachine.step.Goals as goal

pub returns-clause-steps : goal.returns-clause-steps
returns-clause-steps c = λ step o h. step_shows c.args.self.now c.step.new.self c.step.result c.step.ensures.told c.step.ensures.shows c.step.ensures.tells step o h
