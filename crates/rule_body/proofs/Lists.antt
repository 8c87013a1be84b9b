-- Facts of each element, as far as a list was read.
use Rattle.std.proofs.Common.{ℕ, zero, suc, ◌+◌, ◌<◌, ◌≤◌, List, [], ◌∷◌, length, get_or, take, arith}
use Rattle.std.specs.List.{AllByRecursion}

pub all-at : {X : Type 0} (P : X → Type 0) (xs : List X) (i : ℕ) (d : X) → AllByRecursion P xs → i < length xs → P (get_or xs i d)
all-at P [] i d h below = absurd (omega (arith, below))
all-at P (x ∷ xs) zero d h below = h.0
all-at P (x ∷ xs) (suc i) d h below = all-at P xs i d h.1 (omega (arith, below))

pub all-taken : {X : Type 0} (P : X → Type 0) (xs : List X) (n : ℕ) → AllByRecursion P (take n xs) → length xs ≤ n → AllByRecursion P xs
all-taken P [] n h most = tt
all-taken P (x ∷ xs) zero h most = absurd (omega (arith, most))
all-taken P (x ∷ xs) (suc n) h most = (h.0, all-taken P xs n h.1 (omega (arith, most)))
