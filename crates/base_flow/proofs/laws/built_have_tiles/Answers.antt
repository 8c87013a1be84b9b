use Rattle.base_flow.proofs.Tiles.{built_have_tiles}
use Rattle.base_flow.proofs.laws.built_have_tiles.Goals as goal

pub returns : goal.returns
returns c = built_have_tiles
