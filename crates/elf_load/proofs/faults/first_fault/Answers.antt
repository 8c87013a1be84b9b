use Rattle.std.proofs.Common.{arith}
use Rattle.elf_load.proofs.Tried.{has_table}
use Rattle.elf_load.proofs.faults.first_fault.Goals as goal

pub fault-requires-clause-table : goal.fault-requires-clause-table
fault-requires-clause-table c = λ h. has_table c.args.kind c.args.bytes.now c.loop-number.number c.loop-number.invariant (omega arith)
