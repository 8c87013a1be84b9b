use Rattle.base_flow.proofs.Tiles.{flow_tiles_do_rows}
use Rattle.base_flow.proofs.laws.flow_tiles_do_rows.Goals as goal

pub returns : goal.returns
returns c = flow_tiles_do_rows
