-- A fact at each place of a list that grows.
use Rattle.std.proofs.Common.{◌≡◌, ℕ, zero, suc, List, [], ◌∷◌, ◌++◌, length, slice_get, Some, subst}

pub each_pushed : {X : Type 0} (Is : ℕ → X → Type 0) (xs : List X) (x : X) → ((k : ℕ) (y : X) → slice_get xs k ≡ Some y → Is k y) → Is (length xs) x
    → (k : ℕ) (y : X) → slice_get (xs ++ x ∷ []) k ≡ Some y → Is k y
each_pushed Is [] x old new zero y e = let same : x ≡ y = cc in subst (Is 0) same new
each_pushed Is [] x old new (suc k) y e = absurd cc
each_pushed Is (z ∷ zs) x old new zero y e = old 0 y e
each_pushed Is (z ∷ zs) x old new (suc k) y e = each_pushed (λ j. Is (suc j)) zs x (λ j. old (suc j)) new k y e
