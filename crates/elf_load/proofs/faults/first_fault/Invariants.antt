use Rattle.elf_load.specs.Prelude.{PassesBelow}
use Rattle.elf_load.proofs.faults.first_fault.Given as goal

abbrev pub invariant-loop-number : goal.invariant-loop-number
invariant-loop-number l = PassesBelow l.number l.kind l.bytes
