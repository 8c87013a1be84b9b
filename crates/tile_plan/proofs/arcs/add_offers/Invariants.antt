use Rattle.std.proofs.Common.{map, length}
use Rattle.tile_plan.specs.Prelude.{AreSoFar}
use Rattle.tile_plan.proofs.arcs.add_offers.Given as goal

abbrev pub invariant-loop-item : goal.invariant-loop-item
invariant-loop-item l = AreSoFar l.problem (length l.problem.moves.items) l.item-index (map (λ a. a.items) l.arcs.items)
