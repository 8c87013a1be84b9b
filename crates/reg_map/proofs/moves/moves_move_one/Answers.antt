use Rattle.reg_map.proofs.Moving.{moves_move_one}
use Rattle.reg_map.proofs.moves.moves_move_one.Goals as goal

pub returns : goal.returns
returns c = moves_move_one
