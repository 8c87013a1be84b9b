use Rattle.std.proofs.Common.{refl}
use Rattle.machines.specs.Prelude.{load}
use Rattle.worked_rows.proofs.host.wrapping_addresses.Goals as goal

pub returns : goal.returns
unfolding load
returns c = record { base = refl; negative = refl; pair = refl; bytes = refl }
