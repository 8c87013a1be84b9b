use Rattle.simulation.proofs.MoveCodes.{move_codes_move}
use Rattle.simulation.proofs.laws.move_codes_move.Goals as goal

pub returns : goal.returns
returns c = move_codes_move
