use Rattle.machines.proofs.BranchSmall.{carry_is_recorded}
use Rattle.machines.proofs.examples.records_and_carries.Goals as goal

pub returns : goal.returns
returns c = carry_is_recorded
