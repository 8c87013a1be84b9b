use Rattle.machines.proofs.Readings.{fetched, ops_are_read}
use Rattle.machines.proofs.laws.readings_exist.Goals as goal

pub returns : goal.returns
returns c = record {
  words = c.one_reading.ensures.exists;
  ops = let read = c.one_reading-2.ensures.exists in ((λ bytes. fetched (read.0 bytes)), ops_are_read read.0 read.1);
}
