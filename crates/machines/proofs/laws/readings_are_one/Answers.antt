use Rattle.machines.proofs.Readings.{one_of_ops}
use Rattle.machines.proofs.laws.readings_are_one.Goals as goal

pub returns : goal.returns
returns c = record { words = c.one_reading.ensures.agree; ops = one_of_ops }
