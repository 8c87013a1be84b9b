use Rattle.std.proofs.Common.{subst, sym, true}
use Rattle.machines.specs.Prelude.{rights_of, does}
use Rattle.ia_step.specs.Prelude.{choice_of, Led}
use Rattle.ia_step.proofs.parts.Parts.does.Goals as goal

pub returns-in-Cdq-clause-leads : goal.returns-in-Cdq-clause-leads
returns-in-Cdq-clause-leads c = λ p core s. subst (λ op. Led p true c.copy_sign.new.self (does (rights_of p) op (choice_of c.args.choice) core)) (sym c.in-Cdq.is) (c.copy_sign.ensures p core s)
