-- Flags of sums and differences of plain words.
use Rattle.std.proofs.Common.{◌≡◌, ℕ, ◌+◌, ◌<◌, ◌^◌, refl, Bool, true, false, not, ◌&&◌, ltb, arith}
use Rattle.std.proofs.lemmas.Bool.Decides.{nat_tests}
use Rattle.word_kit.specs.Prelude.{one_if, same, complement, sum_word, sum_carries, difference_word}

pub not_not : (b : Bool) → not (not b) ≡ b
not_not true = refl
not_not false = refl

-- whether the sum has another sign than both terms, by cases
pub over_sum : (p q r : Bool) → (not (same p r) && not (same q r)) ≡ (same p q && not (same r p))
over_sum true true true = refl
over_sum true true false = refl
over_sum true false true = refl
over_sum true false false = refl
over_sum false true true = refl
over_sum false true false = refl
over_sum false false true = refl
over_sum false false false = refl

pub over_difference : (p q r : Bool) → (not (same p r) && not (same (not q) r)) ≡ (not (same p q) && not (same r p))
over_difference true true true = refl
over_difference true true false = refl
over_difference true false true = refl
over_difference true false false = refl
over_difference false true true = refl
over_difference false true false = refl
over_difference false false true = refl
over_difference false false false = refl

-- a difference is the sum with the complement
pub difference_is : (x y : ℕ) (d : Bool) → y < 2 ^ 32 → sum_word x (complement y) (not d) ≡ difference_word x y d
difference_is x y true h = omega arith
difference_is x y false h = omega arith

pub borrow_is : (x y : ℕ) (d : Bool) → y < 2 ^ 32 → not (sum_carries x (complement y) (not d)) ≡ ltb x (y + one_if d)
borrow_is x y true h = grind (arith, nat_tests)
borrow_is x y false h = grind (arith, nat_tests)
