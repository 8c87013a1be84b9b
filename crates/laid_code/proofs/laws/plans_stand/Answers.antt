use Rattle.laid_code.proofs.Plans.{plans_stand}
use Rattle.laid_code.proofs.laws.plans_stand.Goals as goal

pub returns : goal.returns
returns c = plans_stand
