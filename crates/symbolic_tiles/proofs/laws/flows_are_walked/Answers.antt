use Rattle.symbolic_tiles.proofs.Walked.{flows_are_walked}
use Rattle.symbolic_tiles.proofs.laws.flows_are_walked.Goals as goal

pub returns : goal.returns
returns c = flows_are_walked
