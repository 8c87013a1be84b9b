use Rattle.std.proofs.Common.{subst, sym}
use Rattle.machines.specs.Prelude.{Asked}
use Rattle.ia_step.specs.Prelude.{asks_for, Leads}
use Rattle.ia_step.proofs.Asking.{asked, not_asked}
use Rattle.ia_step.proofs.state.State.ask.Goals as goal

pub returns-then-has_buffer-clause-leads : goal.returns-then-has_buffer-clause-leads
returns-then-has_buffer-clause-leads c = λ p h s.
    subst (λ new. Leads p (Asked (record { kind = c.args.kind; fd = c.reg.result; at = c.reg-2.result; count = c.reg-3.result })) new (asks_for p c.args.kind c.args.next h)) (sym c.go_on.ensures.state)
    (asked p c.args.self.now h c.args.kind c.args.next c.reg.result c.reg-2.result c.reg-3.result s c.reg.ensures c.reg-2.ensures c.reg-3.ensures (c.if-has_buffer.ensures.tells p h.core.bytes s.core.memory))

pub returns-else-has_buffer-clause-leads : goal.returns-else-has_buffer-clause-leads
returns-else-has_buffer-clause-leads c = λ p h s.
    not_asked p c.args.self.now h c.args.kind c.args.next c.reg.result c.reg-2.result c.reg-3.result s c.reg.ensures c.reg-2.ensures c.reg-3.ensures (c.if-has_buffer.ensures.tells p h.core.bytes s.core.memory)
