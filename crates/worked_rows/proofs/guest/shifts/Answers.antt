use Rattle.std.proofs.Common.{refl}
use Rattle.machines.specs.Prelude.{leading_zeros}
use Rattle.worked_rows.proofs.guest.shifts.Goals as goal

pub returns : goal.returns
unfolding leading_zeros
returns c = record { drops_a_one = refl; drops_none = refl; by_0 = refl; by_31 = refl; by_32 = refl; positive = refl; written = refl; written_0 = refl; zeros_of_0 = refl; zeros_of_1 = refl }
