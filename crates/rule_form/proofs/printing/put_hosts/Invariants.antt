use Rattle.std.proofs.Common.{◌≡◌, ◌++◌, map, take}
use Rattle.rule_form.specs.Prelude.{Host}
use Rattle.rule_form.proofs.Printed.{lines}
use Rattle.rule_form.proofs.printing.put_hosts.Given as goal

abbrev pub invariant-loop-line : goal.invariant-loop-line
invariant-loop-line l = l.out.items ≡ l.fn.out.items ++ lines (map Host (take l.line-index l.lines))
