use Rattle.simulation.proofs.Meeting.{starts}
use Rattle.simulation.proofs.laws.agrees.Goals as goal

pub returns : goal.returns
returns c = λ s t g h start. c.agreement.ensures (s, t) 0 0 g h (starts s t g h start)
