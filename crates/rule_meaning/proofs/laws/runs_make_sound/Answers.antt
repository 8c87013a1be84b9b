use Rattle.rule_meaning.proofs.Whole.{runs_make_sound}
use Rattle.rule_meaning.proofs.laws.runs_make_sound.Goals as goal

pub returns : goal.returns
returns c = runs_make_sound c.one_instruction.ensures c.rows_have_fields.ensures.puts c.rows_have_fields.ensures.accesses c.rows_have_fields.ensures.branches c.one_instance_is_enough.ensures
