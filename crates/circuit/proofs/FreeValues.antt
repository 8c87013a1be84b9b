-- The words that no gate ties are words.
use Rattle.std.proofs.Common.{◌≡◌, ℕ, ◌*◌, ◌/◌, ◌^◌, ◌<◌, ◌≤◌, Bool, true, false, cond, not, ◌||◌, eqb, leb, List, refl, ◌∙◌, arith, ℤ, pos, negsuc, ◌*ℤ◌, unsigned_abs, FitsSigned, w64, mul-le-mul_left}
use Rattle.std.proofs.lemmas.Int.{ints, fits_signed_mul, rem_below}
use Rattle.std.proofs.Math.Nat.{mod-lt}
use Rattle.std.proofs.lemmas.Bool.Decides.{nat_tests}
use Rattle.word_kit.specs.Prelude.{signed, signed_in, two_complement, bit_of, product_low, product_high, quotient, remainder, divide_faults, fits_word, signed_quotient, signed_remainder, two_words}
use Rattle.circuit.specs.Prelude.{lit_truth, word_value, at, Lit}
use Rattle.circuit.proofs.Numbers.{number_below}
use Rattle.circuit.proofs.Meanings.{word_is}

pub low_below : (x y : ℕ) → product_low x y < 2 ^ 32
low_below x y = omega arith

le_of : (a b : ℕ) → a < b → a ≤ b
le_of a b h = omega arith

signed_abs : (x : ℕ) → x < 2 ^ 32 → unsigned_abs (signed x) ≤ 2 ^ 31
signed_abs x h = grind (arith, ints, nat_tests)

two_64 : (z : ℤ) → FitsSigned w64 z → two_complement 64 z < 2 ^ 64
two_64 (pos n) f = let b = f.sfits in omega arith
two_64 (negsuc n) f = omega arith

div_below : (n : ℕ) → n < 2 ^ 64 → n / 2 ^ 32 < 2 ^ 32
div_below n h = omega arith

product_below : (x y : ℕ) → x < 2 ^ 32 → y < 2 ^ 32 → x * y < 2 ^ 64
product_below x y hx hy =
    let a : x * y ≤ x * 2 ^ 32 = grind (arith, mul-le-mul_left x (le_of y (2 ^ 32) hy)) in
    omega (arith, a)

pub high_below : (s : Bool) (x y : ℕ) → x < 2 ^ 32 → y < 2 ^ 32 → product_high x y s < 2 ^ 32
high_below true x y hx hy = div_below (two_complement 64 (signed x *ℤ signed y)) (two_64 (signed x *ℤ signed y) (fits_signed_mul w64 (signed x) (signed y) (2 ^ 31) (2 ^ 31) (signed_abs x hx) (signed_abs y hy) (omega arith)))
high_below false x y hx hy = div_below (x * y) (product_below x y hx hy)

two_32 : (z : ℤ) → fits_word z ≡ true → two_complement 32 z < 2 ^ 32
two_32 (pos n) h = grind (arith, nat_tests, h)
two_32 (negsuc n) h = omega arith

or_false : (a b : Bool) → (a || b) ≡ false → (a ≡ false) × (b ≡ false)
or_false true b h = absurd cc
or_false false b h = (refl, h)

not_false : (a : Bool) → not a ≡ false → a ≡ true
not_false true h = refl
not_false false h = absurd cc

not_leb : (a b : ℕ) → leb a b ≡ false → b < a
not_leb a b h = grind (arith, nat_tests, h)

not_zero : (a : ℕ) → eqb a 0 ≡ false → 0 < a
not_zero a h = grind (arith, nat_tests, h)

unless : (c : Bool) (n : ℕ) → (c ≡ false → n < 2 ^ 32) → cond c 0 n < 2 ^ 32
unless true n h = omega arith
unless false n h = h refl

pub quotient_below : (s : Bool) (high low by : ℕ) → quotient high low by s < 2 ^ 32
quotient_below true high low by = unless (divide_faults high low by true) _ (λ h. two_32 (signed_quotient high low by) (not_false (fits_word (signed_quotient high low by)) (or_false (eqb by 0) (not (fits_word (signed_quotient high low by))) h).1))
quotient_below false high low by = unless (divide_faults high low by false) _ (λ h. not_leb (2 ^ 32) (two_words high low / by) (or_false (eqb by 0) (leb (2 ^ 32) (two_words high low / by)) h).1)

rem_32 : (z : ℤ) → unsigned_abs z < 2 ^ 31 → two_complement 32 z < 2 ^ 32
rem_32 (pos n) h = omega (arith, h)
rem_32 (negsuc n) h = omega arith

some_abs : (x : ℕ) → x < 2 ^ 32 → 0 < x → 0 < unsigned_abs (signed x)
some_abs x h p = grind (arith, ints, nat_tests)

pub remainder_below : (s : Bool) (high low by : ℕ) → by < 2 ^ 32 → remainder high low by s < 2 ^ 32
remainder_below true high low by hb = unless (divide_faults high low by true) _ (λ h.
    let z = not_zero by (or_false (eqb by 0) (not (fits_word (signed_quotient high low by))) h).0 in
    let r = rem_below (signed_in 64 (two_words high low)) (signed by) (some_abs by hb z) in
    let a = signed_abs by hb in
    rem_32 (signed_remainder high low by) (omega (arith, r, a)))
remainder_below false high low by hb = unless (divide_faults high low by false) _ (λ h.
    let z = not_zero by (or_false (eqb by 0) (leb (2 ^ 32) (two_words high low / by)) h).0 in
    let r = mod-lt (two_words high low) z in omega (arith, r, hb))

-- a word of free bits is its value
pub free_is : (r : List Lit) (v : ℕ → Bool) (value : ℕ) → value < 2 ^ 32 → ((k : ℕ) → k < 32 → lit_truth (at r k) v ≡ bit_of value k) → word_value 32 r v ≡ value
free_is r v value h e = word_is r v (λ k. bit_of value k) e ∙ number_below value h
