use Rattle.ppc_isa.specs.Locations.{locations_read}
use Rattle.ppc_isa.proofs.LocationSets.{is_set}
use Rattle.ppc_isa.proofs.locs.reads.Goals as goal

pub returns : goal.returns
returns c =
    is_set c.read_set.result (locations_read c.args.instr.now) c.read_set.ensures.bits c.read_set.ensures.within
