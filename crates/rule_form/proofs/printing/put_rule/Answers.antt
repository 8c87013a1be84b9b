use Rattle.std.proofs.Common.{◌∙◌, ap, ◌++◌, map}
use Rattle.rule_form.specs.Prelude.{Clause, written}
use Rattle.rule_form.proofs.Printed.{put-rule, lines}
use Rattle.rule_form.proofs.printing.put_rule.Goals as goal

pub returns : goal.returns
returns c =
    put-rule c.extend_from_slice.new.self.items c.put_goal.new.out.items c.put_hosts.new.out.items c.put_take_line.new.out.items c.put_clauses.new.out.items c.args.out.now.items (written c.args.rule.now)
    c.in_ok-extend_from_slice.ensures.items
    (c.in_ok-put_clauses.ensures ∙ ap (λ cs. c.put_take_line.new.out.items ++ lines (map Clause cs)) c.as_slice.ensures)
    c.in_ok-put_take_line.ensures c.in_ok-put_hosts.ensures c.in_ok-put_goal.ensures
