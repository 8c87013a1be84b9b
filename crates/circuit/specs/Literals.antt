-- What literals, and words of them, mean where variables have truths.
use Rattle.std.specs.Prelude.{ℕ, zero, suc, ◌+◌, ◌^◌, Bool, false, List, max, Option, None, Some, ℤ, pos, negsuc, slice_index_or}
use Rattle.word_kit.specs.Prelude.{literal_truth, of_bits}
use Rattle.circuit.specs.Types.{Lit, Const, Var}

abbrev pub lit_truth : Lit → (ℕ → Bool) → Bool
lit_truth (Const b) v = b
lit_truth (Var z) v = literal_truth z v

-- the variable of a signed one; 2 ^ 31, which no circuit has, where it is none
abbrev pub signed_reach : ℤ → ℕ
signed_reach (pos zero) = 2 ^ 31
signed_reach (pos (suc n)) = suc n
signed_reach (negsuc n) = n + 1

abbrev pub lit_reach : Lit → ℕ
lit_reach (Const b) = 0
lit_reach (Var z) = signed_reach z

-- the number that the literals below a place are, lowest bit first
unfoldable pub word_value : ℕ → List Lit → (ℕ → Bool) → ℕ
word_value n w v = of_bits (λ k. lit_truth (slice_index_or w k (Const false)) v) n

-- the highest variable of the literals below a place
unfoldable pub word_reach_below : ℕ → List Lit → ℕ
word_reach_below zero w = 0
word_reach_below (suc n) w = max (word_reach_below n w) (lit_reach (slice_index_or w n (Const false)))

-- the constant that is true
abbrev pub is_true : Lit → Bool
is_true (Const b) = b
is_true (Var z) = false

-- the variable of a literal that is no constant, with its sign
abbrev pub signed_variable : Lit → Option ℤ
signed_variable (Const b) = None
signed_variable (Var z) = Some z
