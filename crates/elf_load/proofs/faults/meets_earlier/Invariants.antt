use Rattle.std.proofs.Common.{ℕ, ◌<◌}
use Rattle.std.specs.Prelude.{IsTrue}
use Rattle.elf_load.specs.Prelude.{header, is_segment, SharesAddress}
use Rattle.elf_load.proofs.faults.meets_earlier.Given as goal

abbrev pub invariant-loop-i : goal.invariant-loop-i
invariant-loop-i l = (k : ℕ) → k < l.i → IsTrue (is_segment (header l.kind l.bytes k))
    → ¬ SharesAddress (header l.kind l.bytes k).vaddr (header l.kind l.bytes k).memsz l.h.vaddr l.h.memsz
