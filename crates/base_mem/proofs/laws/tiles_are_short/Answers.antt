use Rattle.base_mem.proofs.Tiles.{tiles_are_short}
use Rattle.base_mem.proofs.laws.tiles_are_short.Goals as goal

pub returns : goal.returns
returns c = tiles_are_short
