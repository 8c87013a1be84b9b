use Rattle.tile_plan.specs.Prelude.{weight_limit}
use Rattle.tile_plan.proofs.Leasts.{AreBelow, IsPartRow}
use Rattle.tile_plan.proofs.table.move_weights.Given as goal

abbrev pub invariant-loop-arc : goal.invariant-loop-arc
invariant-loop-arc l = record {
  part : IsPartRow l.problem l.place l.left (weight_limit l.problem l.place l.left) l.arcs l.arc-index l.row.items;
  below : AreBelow l.problem l.row.items l.base;
}
