use Rattle.std.proofs.Common.{◌≡◌, map, take}
use Rattle.symbolic_tiles.specs.declared.tile_item.TileItem.TheVariants.{Do}
use Rattle.base_flow.proofs.items.doing.Given as goal

abbrev pub invariant-loop-op : goal.invariant-loop-op
invariant-loop-op l = l.made.items ≡ map (λ op. Do op) (take l.op-index l.ops)
