use Rattle.reg_map.proofs.Homes.{homes_apart}
use Rattle.reg_map.proofs.home.homes_are_apart.Goals as goal

pub returns : goal.returns
returns c = homes_apart
