use Rattle.symbolic_tiles.proofs.Straight.{rows_are_straight, accesses_are_inside}
use Rattle.symbolic_tiles.proofs.laws.straight_rows.Goals as goal

pub returns : goal.returns
returns c = record { next = rows_are_straight; access = accesses_are_inside }
