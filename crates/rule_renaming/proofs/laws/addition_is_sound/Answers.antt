use Rattle.rule_renaming.proofs.Addition.{addition_is_sound}
use Rattle.rule_renaming.proofs.laws.addition_is_sound.Goals as goal

pub returns : goal.returns
returns c = addition_is_sound c.one_instruction.ensures c.one_instance_is_enough.ensures
