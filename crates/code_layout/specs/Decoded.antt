-- Code words as they are decoded once: each is an instruction, or an illegal word.
use Rattle.std.specs.Prelude.{◌≡◌, ℕ, ◌<◌, List, length, get_or, slice_index, Option, Some, None}
use Rattle.machines.specs.Prelude.{IsLegal, IsWordOf, Instr}

-- the word is this instruction's; None: it is none's
abbrev pub IsDecodedAs : ℕ → Option Instr → Type 0
IsDecodedAs word (Some i) = IsWordOf word i
IsDecodedAs word None = (i : Instr) → IsWordOf word i → ⊥

-- the decoded word at a place
abbrev pub decoded_at : List (Option Instr) → ℕ → Option Instr
decoded_at words k = get_or words k None

-- the words, each decoded
pub record AreDecodedAs (words : List ℕ) (decoded : List (Option Instr)) : Type 0 where
  pub count : length decoded ≡ length words
  pub each : (k : ℕ) → k < length words → IsDecodedAs (slice_index words k) (decoded_at decoded k)

-- a decoded word: an instruction is legal
abbrev pub IsLegalDecoded : Option Instr → Type 0
IsLegalDecoded (Some i) = IsLegal i
IsLegalDecoded None = Unit {0}
