use Rattle.base_alu.proofs.Straight.{built_are_straight}
use Rattle.base_alu.proofs.laws.built_are_straight.Goals as goal

pub returns : goal.returns
returns c = built_are_straight
