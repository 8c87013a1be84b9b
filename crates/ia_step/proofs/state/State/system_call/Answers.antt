use Rattle.ia_step.proofs.Asking.{unknown_call}
use Rattle.ia_step.proofs.state.State.system_call.Goals as goal

pub returns-else-number-eq-CLOSE-clause-leads : goal.returns-else-number-eq-CLOSE-clause-leads
returns-else-number-eq-CLOSE-clause-leads c = λ p h s.
    unknown_call p c.args.self.now c.go_on.new.self h c.put_reg.new.self c.args.next c.reg-number.result c.negated.result c.go_on.result s c.reg-number.ensures
    c.if-number-eq-EXIT_GROUP.false.0 c.if-number-eq-EXIT_GROUP.false.1 c.if-number-eq-READ.false c.if-number-eq-WRITE.false c.if-number-eq-CLOSE.false
    (c.put_reg.ensures p h.core s.core) c.negated.ensures c.go_on.ensures.event c.go_on.ensures.state
