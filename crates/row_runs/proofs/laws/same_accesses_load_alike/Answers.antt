use Rattle.row_runs.proofs.Loading.{over_memory}
use Rattle.row_runs.proofs.laws.same_accesses_load_alike.Goals as goal

pub returns : goal.returns
returns c = over_memory
