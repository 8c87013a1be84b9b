use Rattle.symbolic_tiles.proofs.Anywhere.{ops_stand_anywhere}
use Rattle.symbolic_tiles.proofs.laws.op_stands_anywhere.Goals as goal

pub returns : goal.returns
returns c = ops_stand_anywhere
