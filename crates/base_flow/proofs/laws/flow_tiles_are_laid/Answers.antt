use Rattle.base_flow.proofs.Tiles.{flow_tiles_are_laid}
use Rattle.base_flow.proofs.laws.flow_tiles_are_laid.Goals as goal

pub returns : goal.returns
returns c = flow_tiles_are_laid
