use Rattle.live_enough.proofs.Enough.{enough}
use Rattle.live_enough.proofs.laws.live_sets_are_enough.Goals as goal

pub returns : goal.returns
returns c = enough c.one_instruction.ensures c.live_by_behind.ensures c.depends_on_its_reads_alone.ensures c.keeps_agreement.ensures
