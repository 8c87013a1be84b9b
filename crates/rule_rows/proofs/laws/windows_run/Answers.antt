use Rattle.rule_rows.proofs.Run.{windows_run}
use Rattle.rule_rows.proofs.laws.windows_run.Goals as goal

pub returns : goal.returns
returns c = windows_run c.one_instruction.ensures
