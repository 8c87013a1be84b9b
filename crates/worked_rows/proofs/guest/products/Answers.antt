use Rattle.std.proofs.Common.{refl}
use Rattle.worked_rows.proofs.guest.products.Goals as goal

pub returns : goal.returns
returns c = record { signed = refl; unsigned = refl; least_signed = refl; least_unsigned = refl; square = refl; minus_ones = refl; greatest = refl }
