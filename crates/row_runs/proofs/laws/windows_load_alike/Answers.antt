use Rattle.row_runs.proofs.Loading.{guest_same}
use Rattle.row_runs.proofs.laws.windows_load_alike.Goals as goal

pub returns : goal.returns
returns c = guest_same
