use Rattle.base_mem.proofs.Straight.{built_are_straight}
use Rattle.base_mem.proofs.laws.built_are_straight.Goals as goal

pub returns : goal.returns
returns c = built_are_straight
