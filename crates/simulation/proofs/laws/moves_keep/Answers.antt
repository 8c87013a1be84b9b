use Rattle.simulation.proofs.Moves.{moves_keep}
use Rattle.simulation.proofs.laws.moves_keep.Goals as goal

pub returns : goal.returns
returns c = moves_keep
