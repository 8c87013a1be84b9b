use Rattle.std.proofs.Common.{refl}
use Rattle.worked_rows.proofs.guest.compares.Goals as goal

pub returns : goal.returns
returns c = record { signed = refl; unsigned = refl; greater = refl; equal = refl; with_so = refl; immediate = refl; immediate_unsigned = refl }
