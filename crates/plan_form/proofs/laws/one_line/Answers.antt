use Rattle.line_text.proofs.Reading.{text-good, first-once}
use Rattle.plan_form.specs.Prelude.{IsPlanText}
use Rattle.plan_form.proofs.PlanGrammar.{plans, is-grammar}
use Rattle.plan_form.proofs.laws.one_line.Goals as goal

pub returns-clause-good : goal.returns-clause-good
returns-clause-good c = λ text all n fit is. text-good plans is-grammar text n all fit is

pub returns-clause-once : goal.returns-clause-once
returns-clause-once c = first-once IsPlanText
