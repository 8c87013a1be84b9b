-- Pairs of literals that are to be the same.
use Rattle.std.specs.Prelude.{◌≡◌, ℕ, zero, suc, Bool, List, [], ◌∷◌, ◌++◌}
use Rattle.std.specs.List.{All}
use Rattle.circuit.specs.Prelude.{lit_truth, at}
use Rattle.circuit.specs.declared.literals.Lit.{Lit}

-- under an assignment both literals have the same truth
abbrev pub IsAlike : (ℕ → Bool) → Lit × Lit → Type 0
IsAlike w p = lit_truth p.0 w ≡ lit_truth p.1 w

-- no pair differs
unfoldable pub AreAlike : (ℕ → Bool) → List (Lit × Lit) → Type 0
AreAlike w pairs = All (IsAlike w) pairs

-- the pairs of the lowest n bits of two words, the lowest first
unfoldable pub bit_pairs : ℕ → List Lit → List Lit → List (Lit × Lit)
bit_pairs zero x y = []
bit_pairs (suc n) x y = bit_pairs n x y ++ (at x n, at y n) ∷ []
