use Rattle.access.proofs.Kept.{holds_is}
use Rattle.access.proofs.memory.holds.Goals as goal

pub returns : goal.returns
returns c = λ p bytes keeps. holds_is p bytes c.args.space.now c.args.writable c.args.count c.args.at c.holds.result keeps c.holds.ensures
