use Rattle.row_laws.proofs.Changes.{changes}
use Rattle.row_laws.proofs.laws.changes_its_writes_alone.Goals as goal

pub returns : goal.returns
returns c = changes
