use Rattle.std.proofs.Common.{◌∙◌, ap}
use Rattle.machines.specs.Prelude.{results}
use Rattle.ppc_step.specs.Prelude.{told}
use Rattle.ppc_step.proofs.States.{with_registers}
use Rattle.ppc_step.proofs.state.State.give_a.Goals as goal

pub returns-clause-state : goal.returns-clause-state
returns-clause-state c = λ p g is.
    rw (← c.effect-effect.ensures.effect p g is)
    (c.go_on.ensures.state p _ (with_registers p c.args.self.now g _ _ is (c.put_results.ensures ∙ ap (results c.args.form.carries c.args.form.records c.args.a c.effect-effect.result.a (told c.effect-effect.result)) is.registers)))
