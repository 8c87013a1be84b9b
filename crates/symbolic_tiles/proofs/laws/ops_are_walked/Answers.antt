use Rattle.symbolic_tiles.proofs.Walked.{ops_are_walked}
use Rattle.symbolic_tiles.proofs.laws.ops_are_walked.Goals as goal

pub returns : goal.returns
returns c = ops_are_walked
