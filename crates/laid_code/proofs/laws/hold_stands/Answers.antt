use Rattle.laid_code.proofs.Carried.{hold_stands}
use Rattle.laid_code.proofs.laws.hold_stands.Goals as goal

pub returns : goal.returns
returns c = hold_stands
