use Rattle.ppc_isa.specs.Locations.{locations_written}
use Rattle.ppc_isa.proofs.LocationSets.{is_set}
use Rattle.ppc_isa.proofs.locs.writes.Goals as goal

pub returns : goal.returns
returns c =
    is_set c.written_set.result (locations_written c.args.instr.now) c.written_set.ensures.bits c.written_set.ensures.within
