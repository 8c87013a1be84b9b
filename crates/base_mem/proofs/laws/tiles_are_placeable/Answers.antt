use Rattle.base_mem.proofs.Tiles.{tiles_are_placeable}
use Rattle.base_mem.proofs.laws.tiles_are_placeable.Goals as goal

pub returns : goal.returns
returns c = tiles_are_placeable
