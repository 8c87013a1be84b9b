use Rattle.symbolic_tiles.proofs.Frames.{loads_keep_memory}
use Rattle.symbolic_tiles.proofs.laws.loads_keep_memory.Goals as goal

pub returns : goal.returns
returns c = loads_keep_memory
