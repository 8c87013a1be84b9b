-- The formula that says that a pair of literals differs.
use Rattle.std.specs.Prelude.{◌≤◌, ◌<◌, length, slice_index_or, ℕ, Bool, false, not, cond, IsTrue, List, Option, None, Some, ℤ}
use Rattle.std.specs.List.{Any, list_any, filter_map}
use Rattle.word_kit.specs.Prelude.{same, Satisfies}
use Rattle.circuit.specs.Literals.{lit_truth, lit_reach, is_true, signed_variable}
use Rattle.circuit.specs.Extensions.{GatesAgree}
use Rattle.circuit.specs.Made.{xor_made}
use Rattle.circuit.specs.WordsMade.{WordsMade, word_made}
use Rattle.circuit.specs.Types.{Lit, Const, Node}

-- the pair of a place
abbrev pub pair_at : List (Lit × Lit) → ℕ → Lit × Lit
pair_at pairs k = slice_index_or pairs k (Const false, Const false)

-- the Xor of each pair, in order
abbrev pub differences_made : (Node → Node → Bool) → List Node → List (Lit × Lit) → WordsMade
differences_made eq ns pairs = word_made (λ h k. xor_made eq h (pair_at pairs k).0 (pair_at pairs k).1) (length pairs) ns

-- the literals of the pairs name variables that are there
pub record AreOwned (extent : ℕ) (pairs : List (Lit × Lit)) : Type 0 where
  pub first : (k : ℕ) → k < length pairs → lit_reach (pair_at pairs k).0 ≤ extent
  pub second : (k : ℕ) → k < length pairs → lit_reach (pair_at pairs k).1 ≤ extent

-- whether a pair differs
abbrev pub differs : (ℕ → Bool) → Lit × Lit → Bool
differs v p = not (same (lit_truth p.0 v) (lit_truth p.1 v))

-- the gates allow a pair to differ, whatever product halves and divisions are
abbrev pub CanDiffer : List Node → List (Lit × Lit) → Type 0
CanDiffer ns pairs = (v : ℕ → Bool) × GatesAgree ns v × Any (λ p. IsTrue (differs v p)) pairs

-- The clause by which one of these literals is true: false constants are left out, and where one is true there is no clause.
unfoldable pub final_clause : List Lit → Option (List ℤ)
final_clause literals = cond (list_any is_true literals) None (Some (filter_map signed_variable literals))

abbrev pub IsSatisfiable : List (List ℤ) → Type 0
IsSatisfiable clauses = (v : ℕ → Bool) × Satisfies v clauses
