use Rattle.laid_code.proofs.Items.{items_stand}
use Rattle.laid_code.proofs.laws.items_stand.Goals as goal

pub returns : goal.returns
returns c = items_stand
