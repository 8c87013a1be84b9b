use Rattle.symbolic_tiles.proofs.PlaceLaws.{programs_write_held}
use Rattle.symbolic_tiles.proofs.laws.programs_write_held.Goals as goal

pub returns : goal.returns
returns c = programs_write_held
