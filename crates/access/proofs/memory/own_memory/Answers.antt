use Rattle.access.proofs.Kept.{first_keeps}
use Rattle.access.proofs.memory.own_memory.Goals as goal

pub returns : goal.returns
returns c = first_keeps c.args.program c.owning.result c.requires.apart c.requires.closed c.owning.ensures
