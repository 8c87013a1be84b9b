use Rattle.line_text.proofs.Reading.{text-same}
use Rattle.plan_form.proofs.PlanGrammar.{plans, is-grammar}
use Rattle.plan_form.proofs.laws.one_list.Goals as goal

pub returns : goal.returns
returns c = text-same plans is-grammar
