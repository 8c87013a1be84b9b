use Rattle.rule_form.proofs.Arrays.{rule-same}
use Rattle.rule_form.proofs.laws.one_rule.Goals as goal

pub returns : goal.returns
returns c = rule-same
