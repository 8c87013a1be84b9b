use Rattle.std.proofs.Common.{refl}
use Rattle.worked_rows.proofs.host.logic_and_moves.Goals as goal

pub returns : goal.returns
returns c = record {
  logic = record { ands = refl; ors = refl; xors = refl; tests = refl };
  moves = record { moves = refl; keeps = refl; byte_sign = refl; half_sign = refl; no_sign = refl; zeros = refl; copies_the_sign = refl; copies_no_sign = refl };
}
