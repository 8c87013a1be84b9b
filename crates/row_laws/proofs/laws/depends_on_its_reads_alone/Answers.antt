use Rattle.row_laws.proofs.Depends.{depends}
use Rattle.row_laws.proofs.laws.depends_on_its_reads_alone.Goals as goal

pub returns : goal.returns
returns c = depends
