use Rattle.std.proofs.Common.{ℕ, ◌∙◌, ap}
use Rattle.machines.specs.Prelude.{update, with_so}
use Rattle.ppc_step.proofs.States.{gpr_put, with_registers}
use Rattle.ppc_step.proofs.state.State.fail.Goals as goal

pub returns-clause-state : goal.returns-clause-state
returns-clause-state c = λ p g is.
    rw (← c.from.ensures) (c.go_on.ensures.state p _ (with_registers p c.args.self.now g _ _ is (c.set_so.ensures ∙ ap (λ (f : ℕ → ℕ). update f 34 (with_so (f 34))) (gpr_put _ _ _ _ _ c.put_gpr.ensures is.registers))))
