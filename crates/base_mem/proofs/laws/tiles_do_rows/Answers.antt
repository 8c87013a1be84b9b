use Rattle.base_mem.proofs.Tiles.{tiles_do_rows}
use Rattle.base_mem.proofs.laws.tiles_do_rows.Goals as goal

pub returns : goal.returns
returns c = tiles_do_rows
