use Rattle.std.proofs.Common.{map}
use Rattle.tile_plan.specs.Prelude.{AreSoFar}
use Rattle.tile_plan.proofs.arcs.add_moves.Given as goal

abbrev pub invariant-loop-item : goal.invariant-loop-item
invariant-loop-item l = AreSoFar l.problem l.item-index 0 (map (λ a. a.items) l.arcs.items)
