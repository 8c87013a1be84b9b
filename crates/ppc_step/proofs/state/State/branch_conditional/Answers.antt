use Rattle.std.proofs.Common.{subst}
use Rattle.machines.specs.Prelude.{update, branches, linked}
use Rattle.ppc_step.specs.Prelude.{IsState}
use Rattle.ppc_step.proofs.States.{target_is, gpr_put, with_registers}
use Rattle.ppc_step.proofs.state.State.branch_conditional.Goals as goal

pub returns-clause-state : goal.returns-clause-state
returns-clause-state c = λ p g is.
    rw (← c.effect-effect.ensures.effect p g is)
    (subst (λ t. IsState p c.jump.new.self (branches (linked c.args.link g.next (update g.locs 33 c.effect-effect.result.ctr)) c.effect-effect.result.taken t g))
    (target_is 14 c.args.field c.args.absolute c.args.self.now.next g.next c.short_displacement.result c.target-target.result is.next (c.short_displacement.ensures 0) c.target-target.ensures)
    (c.jump.ensures.state p _ (with_registers p c.args.self.now g _ _ is (gpr_put _ _ _ _ _ c.put_ctr.ensures is.registers))))
