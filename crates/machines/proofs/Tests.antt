-- Tests that decide.
use Rattle.std.proofs.Common.{◌≡◌, ◌≢◌, ℕ, ◌<◌, ◌≤◌, Bool, true, false, not, ◌&&◌, eqb, ltb, leb, List, [], ◌∷◌, refl, arith}
use Rattle.std.proofs.lemmas.Bool.Decides.{nat_tests}

pub both : (x y : Bool) → x ≡ true → y ≡ true → (x && y) ≡ true
both true y p q = q
both false y p q = p

pub first_of_both : (x y : Bool) → (x && y) ≡ true → x ≡ true
first_of_both true y p = refl
first_of_both false y p = p

pub second_of_both : (x y : Bool) → (x && y) ≡ true → y ≡ true
second_of_both true y p = p
second_of_both false y p = absurd cc

pub equal : (a b : ℕ) → eqb a b ≡ true → a ≡ b
equal a b h = grind (arith, nat_tests)

pub is_equal : (a b : ℕ) → a ≡ b → eqb a b ≡ true
is_equal a b h = grind (arith, nat_tests)

pub unequal : (a b : ℕ) → not (eqb a b) ≡ true → a ≢ b
unequal a b h = grind (arith, nat_tests)

pub below : (a b : ℕ) → ltb a b ≡ true → a < b
below a b h = grind (arith, nat_tests)

pub is_below : (a b : ℕ) → a < b → ltb a b ≡ true
is_below a b h = grind (arith, nat_tests)

pub upto : (a b : ℕ) → leb a b ≡ true → a ≤ b
upto a b h = grind (arith, nat_tests)

pub is_upto : (a b : ℕ) → a ≤ b → leb a b ≡ true
is_upto a b h = grind (arith, nat_tests)

pub same_list : List ℕ → List ℕ → Bool
same_list [] [] = true
same_list [] (y ∷ ys) = false
same_list (x ∷ xs) [] = false
same_list (x ∷ xs) (y ∷ ys) = eqb x y && same_list xs ys

pub same : (xs ys : List ℕ) → same_list xs ys ≡ true → xs ≡ ys
unfolding same_list
same [] [] h = refl
same [] (y ∷ ys) h = absurd cc
same (x ∷ xs) [] h = absurd cc
same (x ∷ xs) (y ∷ ys) h =
    let front : x ≡ y = equal x y (first_of_both (eqb x y) (same_list xs ys) h) in
    let rest : xs ≡ ys = same xs ys (second_of_both (eqb x y) (same_list xs ys) h) in
    rw (front, rest) refl

pub is_same : (xs : List ℕ) → same_list xs xs ≡ true
unfolding same_list
is_same [] = refl
is_same (x ∷ xs) = both (eqb x x) (same_list xs xs) (is_equal x x refl) (is_same xs)
