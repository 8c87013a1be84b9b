use Rattle.line_text.proofs.Reading.{text-good, first-once}
use Rattle.rule_form.specs.Prelude.{IsRuleText}
use Rattle.rule_form.proofs.RuleGrammar.{rules, is-grammar}
use Rattle.rule_form.proofs.laws.one_line.Goals as goal

pub returns-clause-good : goal.returns-clause-good
returns-clause-good c = λ text all n fit is. text-good rules is-grammar text n all fit is

pub returns-clause-once : goal.returns-clause-once
returns-clause-once c = first-once IsRuleText
