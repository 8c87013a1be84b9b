use Rattle.std.proofs.Common.{ℕ, ◌<◌}
use Rattle.std.specs.Prelude.{IsTrue}
use Rattle.elf_load.specs.Prelude.{header, is_code, entry, IsWordOf}
use Rattle.elf_load.proofs.faults.starts_at_word.Given as goal

abbrev pub invariant-loop-i : goal.invariant-loop-i
invariant-loop-i l = (k : ℕ) → k < l.i → IsTrue (is_code (header l.kind l.bytes k))
    → ¬ IsWordOf (header l.kind l.bytes k) (entry l.kind l.bytes)
