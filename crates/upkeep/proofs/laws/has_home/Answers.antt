use Rattle.upkeep.proofs.InPlace.{in_place}
use Rattle.upkeep.proofs.laws.has_home.Goals as goal

pub returns : goal.returns
returns c = in_place
