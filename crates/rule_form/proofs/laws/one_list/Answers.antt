use Rattle.line_text.proofs.Reading.{text-same}
use Rattle.rule_form.proofs.RuleGrammar.{rules, is-grammar}
use Rattle.rule_form.proofs.laws.one_list.Goals as goal

pub returns : goal.returns
returns c = text-same rules is-grammar
