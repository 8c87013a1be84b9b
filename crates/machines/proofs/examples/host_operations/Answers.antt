use Rattle.machines.proofs.HostOpsSmall.{overflow_is_chosen, byte_is_set, quotient_and_remainder, division_faults, memory_is_target}
use Rattle.machines.proofs.examples.host_operations.Goals as goal

pub returns : goal.returns
returns c = record {
  shifts = overflow_is_chosen;
  sets_a_byte = byte_is_set;
  divides = quotient_and_remainder;
  faults = division_faults;
  jumps = memory_is_target;
}
