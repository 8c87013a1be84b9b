use Rattle.upkeep.proofs.Beginning.{has_bytes, starts}
use Rattle.upkeep.proofs.laws.starts.Goals as goal

pub returns-clause-bytes : goal.returns-clause-bytes
returns-clause-bytes c = has_bytes

pub returns-clause-start : goal.returns-clause-start
returns-clause-start c = starts
