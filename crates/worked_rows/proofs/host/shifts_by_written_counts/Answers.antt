use Rattle.std.proofs.Common.{refl}
use Rattle.worked_rows.proofs.host.shifts_by_written_counts.Goals as goal

pub returns : goal.returns
returns c = record { none = refl; shl = refl; shr = refl; sar = refl; sar_4 = refl; shr_31 = refl; rol_8 = refl; ror_8 = refl }
