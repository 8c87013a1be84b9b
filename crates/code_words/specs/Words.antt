-- The code words of a program. A code word is an aligned word all of whose bytes lie in the code segment (Power ISA Book I, "Instruction Fetches").
use Rattle.std.specs.Prelude.{◌≡◌, ℕ, ◌+◌, ◌*◌, ◌%◌, ◌^◌, ◌<◌, true, List, length, slice_index}
use Rattle.std.specs.Int.{next_multiple_of}
use Rattle.machines.specs.Prelude.{Program, code_of, is_code_word, word_of_code}

-- the program's code words are these, one behind another from the address `first` on, below 2^32
pub record HasWords (P : Program) (first : ℕ) (words : List ℕ) : Type 0 where
  pub aligned : first % 4 ≡ 0
  pub low : first + 4 * length words < 2 ^ 32
  pub here : (k : ℕ) → k < length words → is_code_word (code_of P) (first + 4 * k) ≡ true
  pub each : (k : ℕ) → k < length words → word_of_code (code_of P) (first + 4 * k) ≡ slice_index words k
  pub only : (a : ℕ) → is_code_word (code_of P) a ≡ true → (k : ℕ) × (k < length words) × (a ≡ first + 4 * k)

-- the least multiple of 4 that isn't below the address of the code
abbrev pub first_of : Program → ℕ
first_of P = next_multiple_of (code_of P).at 4
