use Rattle.std.proofs.Common.{◌≡◌, ◌++◌, map, take}
use Rattle.rule_form.specs.Prelude.{Clause}
use Rattle.rule_form.proofs.Printed.{lines}
use Rattle.rule_form.proofs.printing.put_clauses.Given as goal

abbrev pub invariant-loop-clause : goal.invariant-loop-clause
invariant-loop-clause l = l.out.items ≡ l.fn.out.items ++ lines (map Clause (take l.clause-index l.clauses))
