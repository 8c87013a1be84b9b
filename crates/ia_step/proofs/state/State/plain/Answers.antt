use Rattle.std.proofs.Common.{true, false, subst, sym, ap, ◌∙◌}
use Rattle.machines.specs.Prelude.{rights_of, does, choice_at}
use Rattle.ia_step.specs.Prelude.{Led}
use Rattle.ia_step.proofs.Going.{went, stopped}
use Rattle.ia_step.proofs.state.State.plain.Goals as goal

pub returns-in-Some-clause-leads : goal.returns-in-Some-clause-leads
returns-in-Some-clause-leads c = λ p h s.
    went p c.args.self.now c.go_on.new.self h c.does.new.self c.args.next (does (rights_of p) c.args.op (choice_at h.choices 0) h.core) c.go_on.result
    (subst (λ x. Led p true c.does.new.self (does (rights_of p) c.args.op x h.core)) (c.first-choice.ensures ∙ sym (ap (λ l. choice_at l 0) s.choices)) (c.in-Some.ensures.leads p h.core s.core))
    s.choices c.go_on.ensures.event c.go_on.ensures.state

pub returns-in-None-clause-leads : goal.returns-in-None-clause-leads
returns-in-None-clause-leads c = λ p h s.
    stopped p (record c.args.self.now { parts = c.does.new.self }) h c.does.new.self c.args.next (does (rights_of p) c.args.op (choice_at h.choices 0) h.core)
    (subst (λ x. Led p false c.does.new.self (does (rights_of p) c.args.op x h.core)) (c.first-choice.ensures ∙ sym (ap (λ l. choice_at l 0) s.choices)) (c.in-None.ensures.leads p h.core s.core))
