use Rattle.tile_plan.specs.Prelude.{weight_limit}
use Rattle.tile_plan.proofs.Leasts.{IsPartRow}
use Rattle.tile_plan.proofs.table.tile_weights.Given as goal

abbrev pub invariant-loop-arc : goal.invariant-loop-arc
invariant-loop-arc l = IsPartRow l.problem l.place 0 (weight_limit l.problem l.place 0) l.arcs l.arc-index l.row.items
