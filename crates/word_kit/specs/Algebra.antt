-- What a call over an algebra promises: the frame, and what its answer means.
use Rattle.std.specs.Prelude.{◌≡◌, ◌≤◌, ℕ, Bool}
use Rattle.word_kit.specs.Frame as frame
use Rattle.word_kit.specs.declared.algebra.Alg.{Ghosts}

module _ {S W B : Type 0} (A : Ghosts S W B) where
  abbrev pub IsLater : S → S → Type 0
  IsLater old new = frame.IsLater A.extent A.admits A.inputs A.opaque old new

  abbrev pub MayUntie : S → S → Type 0
  MayUntie old new = frame.MayUntie A.extent A.admits A.inputs A.opaque old new

  -- the algebra owns a word, which means a number under every assignment that it admits
  pub record GivesWord (s : S) (x : W) (number : (ℕ → Bool) → ℕ) : Type 0 where
    pub owned : A.word_reach x ≤ A.extent s
    pub means : (v : ℕ → Bool) → A.admits s v → A.word x v ≡ number v

  -- the same of a flag and a truth
  pub record GivesFlag (s : S) (b : B) (truth : (ℕ → Bool) → Bool) : Type 0 where
    pub owned : A.flag_reach b ≤ A.extent s
    pub means : (v : ℕ → Bool) → A.admits s v → A.truth b v ≡ truth v
