-- The frame of an algebra: what a call keeps, whatever it answers.
use Rattle.std.specs.Prelude.{◌≡◌, ◌≤◌, ℕ, Bool}

-- A later state of an algebra. What it owned it owns, since the extent is no less; what it admits it admitted before; and
-- an input is an input still.
module _ {S : Type 0} (extent : S → ℕ) (admits : S → (ℕ → Bool) → Type 0) (is_input : S → ℕ → Type 0) (opaque_of : S → ℕ) where
  -- and each result is tied to its operands
  pub record IsLater (old new : S) : Type 0 where
    pub grows : extent old ≤ extent new
    pub earlier : (a : ℕ → Bool) → admits new a → admits old a
    pub inputs : (k : ℕ) → is_input old k → is_input new k
    pub opaque : opaque_of new ≡ opaque_of old

  -- and nothing may tie some results to their operands
  pub record MayUntie (old new : S) : Type 0 where
    pub grows : extent old ≤ extent new
    pub earlier : (a : ℕ → Bool) → admits new a → admits old a
    pub inputs : (k : ℕ) → is_input old k → is_input new k
    pub rises : opaque_of old ≤ opaque_of new
