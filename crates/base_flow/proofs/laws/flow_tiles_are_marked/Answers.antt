use Rattle.base_flow.proofs.Tiles.{flow_tiles_are_marked}
use Rattle.base_flow.proofs.laws.flow_tiles_are_marked.Goals as goal

pub returns : goal.returns
returns c = flow_tiles_are_marked
