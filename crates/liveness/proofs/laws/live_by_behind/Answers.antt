use Rattle.liveness.proofs.LiveLaws.{live_here}
use Rattle.liveness.proofs.laws.live_by_behind.Goals as goal

pub returns : goal.returns
returns c = live_here
