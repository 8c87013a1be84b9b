-- Words by place.
use Rattle.std.specs.Prelude.{◌≡◌, ◌<◌, ◌≤◌, ◌==◌, if◌then◌else◌, ℕ, Bool, [], slice_index_or}
use Rattle.circuit.specs.Prelude.{word_value, word_reach_below}
use Rattle.place_circuits.specs.declared.places.Places.{Places}

-- the words of the places mean these numbers under an assignment
pub record HoldsPlaces (w : ℕ → Bool) (places : Places) (t : ℕ → ℕ) : Type 0 where
  pub each : (k : ℕ) → k < 64 → word_value 32 (slice_index_or places.words k []) w ≡ t k

pub record PlacesOwned (extent : ℕ) (places : Places) : Type 0 where
  pub each : (k : ℕ) → k < 64 → word_reach_below 32 (slice_index_or places.words k []) ≤ extent

-- the places with another number at one of them
abbrev pub with_place : ℕ → ℕ → (ℕ → ℕ) → ℕ → ℕ
with_place p n t k = if k == p then n else t k
