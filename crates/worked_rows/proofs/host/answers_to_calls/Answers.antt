use Rattle.std.proofs.Common.{refl}
use Rattle.machines.specs.Prelude.{each_byte, block, put_block}
use Rattle.worked_rows.proofs.host.answers_to_calls.Goals as goal

pub returns : goal.returns
unfolding each_byte block put_block
returns c = record { reads_some = refl; reads_no_more = refl; reads_in_vain = refl; writes = refl; writes_in_vain = refl; closes = refl }
