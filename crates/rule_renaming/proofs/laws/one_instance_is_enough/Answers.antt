use Rattle.rule_renaming.proofs.Whole.{one_instance_is_enough}
use Rattle.rule_renaming.proofs.laws.one_instance_is_enough.Goals as goal

pub returns : goal.returns
returns c = one_instance_is_enough c.one_instruction.ensures
