use Rattle.base_flow.proofs.Room.{flow_tiles_are_short}
use Rattle.base_flow.proofs.laws.flow_tiles_are_short.Goals as goal

pub returns : goal.returns
returns c = flow_tiles_are_short
