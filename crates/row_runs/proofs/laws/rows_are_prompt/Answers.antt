use Rattle.row_runs.proofs.Prompt.{prompt}
use Rattle.row_runs.proofs.laws.rows_are_prompt.Goals as goal

pub returns : goal.returns
returns c = prompt
