use Rattle.upkeep.proofs.Alikes.{all_live}
use Rattle.upkeep.proofs.laws.all_live_is_enough.Goals as goal

pub returns : goal.returns
returns c = all_live
