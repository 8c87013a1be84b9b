use Rattle.base_alu.proofs.Tiles.{tiles_do_rows}
use Rattle.base_alu.proofs.laws.tiles_do_rows.Goals as goal

pub returns : goal.returns
returns c = tiles_do_rows
