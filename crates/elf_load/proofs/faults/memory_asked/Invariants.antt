use Rattle.std.proofs.Common.{◌≡◌, ◌≤◌, ◌*◌}
use Rattle.elf_load.specs.Prelude.{memory_before}
use Rattle.elf_load.proofs.faults.memory_asked.Given as goal

abbrev pub invariant-loop-i : goal.invariant-loop-i
invariant-loop-i l = (l.asked ≡ memory_before l.kind l.bytes l.i) × (l.asked ≤ 0xFFFFFFFF * l.i)
