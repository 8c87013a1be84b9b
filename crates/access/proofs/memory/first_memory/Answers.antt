use Rattle.access.proofs.Kept.{first_result}
use Rattle.access.proofs.memory.first_memory.Goals as goal

pub returns : goal.returns
returns c = first_result c.args.program.now c.of.result c.requires.apart c.requires.closed c.of.ensures
