use Rattle.simulation.proofs.Meeting.{settles}
use Rattle.simulation.proofs.laws.settles.Goals as goal

pub returns : goal.returns
returns c = settles
