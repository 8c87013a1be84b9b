use Rattle.std.proofs.Common.{◌≡◌, ◌++◌, ◌∷◌, map, take, decimal, codes}
use Rattle.std.specs.List.{join_with_byte}
use Rattle.plan_form.proofs.printing.put_row.Given as goal

abbrev pub invariant-loop-label : goal.invariant-loop-label
invariant-loop-label l = l.out.items ≡ l.fn.out.items ++ join_with_byte 32 (codes "at" ∷ decimal l.place ∷ map decimal (take l.label-index l.labels))
