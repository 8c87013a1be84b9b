use Rattle.std.proofs.Common.{arith}
use Rattle.access.proofs.Kept.{copied}
use Rattle.access.proofs.memory.copy.Goals as goal

pub returns : goal.returns
returns c = λ p bytes keeps. copied p bytes c.args.space.now _ c.args.at c.copy.new.into keeps (omega arith) c.copy.ensures
