use Rattle.std.proofs.Common.{ap, sym, ◌∙◌, subst, true}
use Rattle.machines.specs.Prelude.{host_row, rights_of, host_values, multiplies}
use Rattle.ia_step.specs.Prelude.{choice_of, Led}
use Rattle.ia_step.proofs.parts.Parts.multiply.Goals as goal

pub returns-clause-leads : goal.returns-clause-leads
returns-clause-leads c = λ p core s.
    let made = c.effect-made.ensures p core s ∙ ap (λ x. host_row c.args.op (host_values (choice_of c.args.choice) core x c.in_ok-y.y)) (c.reg.ensures ∙ sym (s.registers 0)) in
    subst (λ o. Led p true c.put_both.new.self (multiplies (rights_of p) c.args.op (choice_of c.args.choice) core o)) (c.in_ok-y.ensures p core s)
    (c.put_both.ensures p core _ s made)
