use Rattle.std.proofs.Common.{subst}
use Rattle.machines.specs.Prelude.{branches, linked}
use Rattle.ppc_step.specs.Prelude.{IsState}
use Rattle.ppc_step.proofs.States.{target_is}
use Rattle.ppc_step.proofs.state.State.branch.Goals as goal

pub returns-clause-state : goal.returns-clause-state
returns-clause-state c = λ p g is.
    rw (← c.effect-effect.ensures.effect p g is)
    (subst (λ t. IsState p c.jump.new.self (branches (linked c.args.link g.next g.locs) c.effect-effect.result.taken t g))
    (target_is 24 c.args.field c.args.absolute c.args.self.now.next g.next c.displacement.result c.target-target.result is.next (c.displacement.ensures 0) c.target-target.ensures)
    (c.jump.ensures.state p g is))
