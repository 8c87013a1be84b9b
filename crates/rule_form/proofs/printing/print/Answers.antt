use Rattle.std.proofs.Common.{subst, sym}
use Rattle.rule_body.specs.declared.rule.Rule.{Rule}
use Rattle.rule_body.specs.Prelude.{IsRule}
use Rattle.rule_form.proofs.Printed.{all-at}
use Rattle.rule_form.proofs.printing.print.Goals as goal

pub put_rule-requires : goal.put_rule-requires
put_rule-requires c = subst (λ (r : Rule). IsRule r) (sym c.rule-item.is) (all-at (λ (r : Rule). IsRule r) c.args.rules.now c.loop-rule.rule-index c.rule-item.result c.requires.each c.loop-rule-test.true)
