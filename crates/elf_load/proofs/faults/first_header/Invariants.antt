use Rattle.std.proofs.Common.{ℕ, ◌<◌}
use Rattle.elf_load.specs.Prelude.{Breaks}
use Rattle.elf_load.proofs.faults.first_header.Given as goal

abbrev pub invariant-loop-i : goal.invariant-loop-i
invariant-loop-i l = (k : ℕ) → k < l.i → ¬ Breaks l.rule l.kind l.bytes k
