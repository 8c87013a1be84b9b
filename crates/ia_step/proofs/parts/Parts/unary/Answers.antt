use Rattle.std.proofs.Common.{subst, sym, ◌∙◌, ap}
use Rattle.std.specs.Option.{is_some}
use Rattle.machines.specs.Prelude.{Unary, rights_of, place_of, sets}
use Rattle.ia_step.specs.Prelude.{choice_of, Led}
use Rattle.ia_step.proofs.Going.{unary_set}
use Rattle.ia_step.proofs.parts.Parts.unary.Goals as goal

pub returns-in_ok-y-in-Not-clause-leads : goal.returns-in_ok-y-in-Not-clause-leads
returns-in_ok-y-in-Not-clause-leads c = λ p core s.
    subst (λ o. Led p (is_some c.set.result) c.set.new.self o)
    (ap (λ y. sets (rights_of p) (Unary c.args.op c.args.on) (choice_of c.args.choice) (place_of 4 c.args.on core.regs) core y) (c.in_ok-y-in-Not.ensures p core s) ∙ sym (unary_set (rights_of p) c.args.op c.args.on (choice_of c.args.choice) core c.in-Not.is))
    (c.set.ensures.leads p core s)
