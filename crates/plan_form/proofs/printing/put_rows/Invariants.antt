use Rattle.std.proofs.Common.{◌≡◌, ◌++◌, map, take}
use Rattle.plan_form.specs.Prelude.{rows}
use Rattle.plan_form.proofs.TextPrinted.{lines}
use Rattle.plan_form.proofs.printing.put_rows.Given as goal

abbrev pub invariant-loop-place : goal.invariant-loop-place
invariant-loop-place l = l.out.items ≡ l.fn.out.items ++ lines (rows 0 (map (λ row. row.items) (take l.place l.labels)))
