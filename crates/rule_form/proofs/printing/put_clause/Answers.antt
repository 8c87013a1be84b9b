use Rattle.std.proofs.Common.{◌∙◌, codes}
use Rattle.rule_form.specs.Prelude.{literal_word}
use Rattle.rule_form.proofs.Printed.{more, line-between}
use Rattle.rule_form.proofs.printing.put_clause.Goals as goal

pub returns : goal.returns
returns c = more _ _ (codes " 0\n") _ c.in_ok-extend_from_slice-2.ensures.items (more _ _ _ _ c.in_ok-put_literals.ensures c.in_ok-extend_from_slice.ensures.items) ∙ line-between literal_word c.args.literals.now c.args.out.now.items (codes "clause")
