-- Bytes as words of gates.
use Rattle.std.specs.Prelude.{◌≡◌, ◌<◌, ◌≤◌, ℕ, Bool, List, [], slice_index_or}
use Rattle.circuit.specs.Prelude.{word_value, word_reach_below}
use Rattle.circuit.specs.declared.literals.Lit.{Lit}

-- the four words mean these bytes under an assignment
pub record HoldsBytes (w : ℕ → Bool) (words : List (List Lit)) (bytes : ℕ → ℕ) : Type 0 where
  pub each : (k : ℕ) → k < 4 → word_value 32 (slice_index_or words k []) w ≡ bytes k

pub record BytesOwned (extent : ℕ) (words : List (List Lit)) : Type 0 where
  pub each : (k : ℕ) → k < 4 → word_reach_below 32 (slice_index_or words k []) ≤ extent
