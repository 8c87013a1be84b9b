use Rattle.std.proofs.Common.{subst}
use Rattle.machines.specs.Prelude.{Effect, update, effect_of, at_next}
use Rattle.ppc_step.specs.Prelude.{IsState}
use Rattle.ppc_step.proofs.States.{gpr_put, with_registers, load_goes}
use Rattle.ppc_step.proofs.state.State.load_update.Goals as goal

pub returns-clause-leads : goal.returns-clause-leads
returns-clause-leads c = λ p g is.
    let l = c.in-Some.ensures p g is in
    load_goes p c.go_on.new.self g (effect_of c.args.instr.now g) c.go_on.result _ c.go_on.ensures.event l.0
    (subst (λ (e : Effect). IsState p c.go_on.new.self (at_next (update (update g.locs c.args.d e.d) c.args.a e.a) g)) l.1
    (c.go_on.ensures.state p _ (with_registers p c.args.self.now g _ _ is (gpr_put _ _ _ _ _ c.put_gpr-2.ensures (gpr_put _ _ _ _ _ c.put_gpr.ensures is.registers)))))
