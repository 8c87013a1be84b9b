use Rattle.plan_form.proofs.Keyed.{IsPartIndex}
use Rattle.plan_form.proofs.index.map_indexes.Given as goal

abbrev pub invariant-loop-number : goal.invariant-loop-number
invariant-loop-number l = IsPartIndex l.problem l.table l.number
