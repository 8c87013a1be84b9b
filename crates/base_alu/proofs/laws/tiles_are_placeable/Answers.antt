use Rattle.base_alu.proofs.Tiles.{tiles_are_placeable}
use Rattle.base_alu.proofs.laws.tiles_are_placeable.Goals as goal

pub returns : goal.returns
returns c = tiles_are_placeable
