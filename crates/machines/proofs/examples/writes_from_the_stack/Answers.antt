use Rattle.machines.proofs.Calls.{writes_stack, write_65_ends}
use Rattle.machines.proofs.examples.writes_from_the_stack.Goals as goal

pub returns : goal.returns
returns c = record { inside = writes_stack; outside = write_65_ends }
