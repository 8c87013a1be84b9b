use Rattle.std.proofs.Common.{refl}
use Rattle.worked_rows.proofs.guest.accesses.Goals as goal

pub returns : goal.returns
returns c = record {
  loads = record { lwzu = refl; lbzu = refl; lhzu = refl; lwzx = refl; lbzx = refl; lhzx = refl; lhax = refl; lbzux = refl; lhzux = refl; lhaux = refl };
  stores = record { stbu = refl; sthu = refl; stwx = refl; stbx = refl; sthx = refl; stwux = refl; sthux = refl };
}
