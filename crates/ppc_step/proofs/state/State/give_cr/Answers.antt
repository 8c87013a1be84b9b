use Rattle.std.proofs.Common.{◌∙◌, ap}
use Rattle.machines.specs.Prelude.{put_cr}
use Rattle.ppc_step.proofs.States.{with_registers}
use Rattle.ppc_step.proofs.state.State.give_cr.Goals as goal

pub returns-clause-state : goal.returns-clause-state
returns-clause-state c = λ p g is.
    rw (← c.effect-effect.ensures.effect p g is)
    (c.go_on.ensures.state p _ (with_registers p c.args.self.now g _ _ is (c.put_cr.ensures ∙ ap (put_cr c.effect-effect.result.cr) is.registers)))
