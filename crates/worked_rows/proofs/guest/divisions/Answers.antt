use Rattle.std.proofs.Common.{refl}
use Rattle.worked_rows.proofs.guest.divisions.Goals as goal

pub returns : goal.returns
returns c = record { negative = refl; by_negative = refl; least = refl; by_0 = refl; least_by_minus_1 = refl; unsigned = refl; by_greatest = refl; unsigned_by_0 = refl }
