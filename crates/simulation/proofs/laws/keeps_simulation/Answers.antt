use Rattle.simulation.proofs.Meeting.{bounded, advances}
use Rattle.simulation.proofs.laws.keeps_simulation.Goals as goal

pub returns : goal.returns
returns c = record { bounded = bounded; advances = advances }
