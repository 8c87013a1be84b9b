use Rattle.std.proofs.Common.{refl}
use Rattle.ia_codec.proofs.examples.shifts_by_hand.Goals as goal

pub returns : goal.returns
returns c = record { shl_1 = refl; shl_2 = refl; shl_32 = refl; shr_1 = refl; sar_31 = refl; rol_1 = refl; ror_1 = refl; ror_33 = refl }
