use Rattle.offer_make.proofs.Examples.{prices-compute}
use Rattle.offer_make.proofs.laws.prices_compute.Goals as goal

pub returns : goal.returns
returns c = prices-compute
