use Rattle.std.proofs.Common.{◌≡◌, map, take}
use Rattle.symbolic_tiles.specs.Prelude.{flow_of}
use Rattle.symbolic_tiles.proofs.lowering.flows_of.Given as goal

abbrev pub invariant-loop-item : goal.invariant-loop-item
invariant-loop-item l = l.made.items ≡ map (λ item. flow_of l.map item) (take l.item-index l.items)
