use Rattle.std.proofs.Common.{◌≡◌, ℕ, ◌<◌}
use Rattle.std.specs.Prelude.{IsTrue, MatchOption}
use Rattle.elf_load.specs.Prelude.{header, is_code}
use Rattle.elf_load.proofs.faults.has_one_code.Given as goal

-- what has been found is the one code segment of the headers so far
abbrev pub invariant-loop-i : goal.invariant-loop-i
invariant-loop-i l = MatchOption l.found
    ((k : ℕ) → k < l.i → ¬ IsTrue (is_code (header l.kind l.bytes k)))
    (λ n. record {
      within : n < l.i;
      code : IsTrue (is_code (header l.kind l.bytes n));
      only : (k : ℕ) → k < l.i → IsTrue (is_code (header l.kind l.bytes k)) → k ≡ n;
    })
