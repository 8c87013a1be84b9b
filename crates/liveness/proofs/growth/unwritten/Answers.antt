use Rattle.liveness.proofs.Bits.{unwritten_is}
use Rattle.liveness.proofs.growth.unwritten.Goals as goal

pub returns : goal.returns
returns c = unwritten_is c.args.set c.args.writes
