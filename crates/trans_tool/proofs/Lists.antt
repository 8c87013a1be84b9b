-- Lists of two and of three.
use Rattle.std.proofs.Common.{◌≡◌, ◌≤◌, ◌<◌, List, [], ◌∷◌, length, get_or, arith}

pub three : {X : Type 0} (xs : List X) (a b c : X) → 3 ≤ length xs → length xs < 4 → a ≡ get_or xs 0 a → b ≡ get_or xs 1 b → c ≡ get_or xs 2 c → xs ≡ a ∷ b ∷ c ∷ []
three [] a b c low high ea eb ec = absurd (omega arith)
three (x ∷ []) a b c low high ea eb ec = absurd (omega arith)
three (x ∷ y ∷ []) a b c low high ea eb ec = absurd (omega arith)
three (x ∷ y ∷ z ∷ []) a b c low high ea eb ec = cc
three (x ∷ y ∷ z ∷ w ∷ ws) a b c low high ea eb ec = absurd (omega arith)

pub two : {X : Type 0} (xs : List X) (a b : X) → 2 ≤ length xs → length xs < 3 → a ≡ get_or xs 0 a → b ≡ get_or xs 1 b → xs ≡ a ∷ b ∷ []
two [] a b low high ea eb = absurd (omega arith)
two (x ∷ []) a b low high ea eb = absurd (omega arith)
two (x ∷ y ∷ []) a b low high ea eb = cc
two (x ∷ y ∷ z ∷ zs) a b low high ea eb = absurd (omega arith)
