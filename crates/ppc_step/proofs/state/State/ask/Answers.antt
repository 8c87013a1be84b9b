use Rattle.std.proofs.Common.{ℕ, ◌∙◌, ap}
use Rattle.ppc_step.proofs.Asking.{asked, not_asked}
use Rattle.ppc_step.proofs.state.State.ask.Goals as goal

pub returns-then-has_buffer-clause-leads : goal.returns-then-has_buffer-clause-leads
returns-then-has_buffer-clause-leads c = λ p g s.
    asked p c.args.self.now g c.args.kind c.gpr.result c.gpr-2.result c.gpr-3.result s (c.gpr.ensures ∙ ap (λ (f : ℕ → ℕ). f 3) s.registers) (c.gpr-2.ensures ∙ ap (λ (f : ℕ → ℕ). f 4) s.registers)
    (c.gpr-3.ensures ∙ ap (λ (f : ℕ → ℕ). f 5) s.registers) (c.if-has_buffer.ensures.tells p g.bytes s.memory)

pub returns-else-has_buffer-clause-leads : goal.returns-else-has_buffer-clause-leads
returns-else-has_buffer-clause-leads c = λ p g s.
    not_asked p c.args.self.now g c.args.kind c.gpr.result c.gpr-2.result c.gpr-3.result s (c.gpr.ensures ∙ ap (λ (f : ℕ → ℕ). f 3) s.registers) (c.gpr-2.ensures ∙ ap (λ (f : ℕ → ℕ). f 4) s.registers)
    (c.gpr-3.ensures ∙ ap (λ (f : ℕ → ℕ). f 5) s.registers) (c.if-has_buffer.ensures.tells p g.bytes s.memory)
