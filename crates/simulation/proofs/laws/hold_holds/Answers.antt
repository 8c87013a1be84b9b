use Rattle.simulation.proofs.Switches.{at_hold}
use Rattle.simulation.proofs.laws.hold_holds.Goals as goal

pub returns : goal.returns
returns c = λ s t. at_hold s t.holds
