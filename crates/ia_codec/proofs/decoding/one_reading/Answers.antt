use Rattle.ia_codec.proofs.Readings.{reading, IsReading-reading, readings-agree}
use Rattle.ia_codec.proofs.decoding.one_reading.Goals as goal

pub returns-clause-exists : goal.returns-clause-exists
returns-clause-exists c = (reading, IsReading-reading)

pub returns-clause-agree : goal.returns-clause-agree
returns-clause-agree c = readings-agree
