-- Numbers by their bits.
use Rattle.std.proofs.Common.{◌≡◌, ℕ, zero, suc, ◌+◌, ◌-◌, ◌*◌, ◌/◌, ◌%◌, ◌^◌, ◌<◌, ◌⊎◌, Bool, true, false, eqb, not, ◌&&◌, ◌||◌, refl, sym, ap, ◌∙◌, subst, inl, inr, mul_comm, mul_assoc, arith}
use Rattle.std.proofs.Math.Nat.{pow-suc, mul-add-div_right}
use Rattle.std.proofs.Math.Arith.{digits_div}
use Rattle.std.proofs.Math.Pow.{pow_pos}
use Rattle.std.proofs.lemmas.Nat.{pow-add}
use Rattle.std.proofs.lemmas.Bool.Decides.{nat_tests}
use Rattle.machines.specs.Prelude.{one_if, complement, bit_of, of_bits, word_and, word_or}
use Rattle.row_laws.proofs.Digits.{digit, bit_in_digit}

pub below_power : (bits : ℕ → Bool) (n : ℕ) → of_bits bits n < 2 ^ n
unfolding of_bits
below_power bits zero = omega arith
below_power bits (suc n) = with_top (bits n) (below_power bits n)
  where
    with_top : (b : Bool) → of_bits bits n < 2 ^ n → of_bits bits n + one_if b * 2 ^ n < 2 ^ suc n
    with_top true h = let p : 2 ^ suc n ≡ 2 ^ n * 2 = pow-suc 2 n in omega (arith, p)
    with_top false h = let p : 2 ^ suc n ≡ 2 ^ n * 2 = pow-suc 2 n in omega (arith, p)

-- the bits of a number that is given by its bits
pub bit_given : (bits : ℕ → Bool) (n k : ℕ) → k < n → bit_of (of_bits bits n) k ≡ bits k
unfolding of_bits
bit_given bits zero k h = absurd (omega (arith, h))
bit_given bits (suc n) k h = by_order (λ lt. bit_given bits n k lt) (grind arith)
  where
    top : (b : Bool) → bit_of (of_bits bits n + one_if b * 2 ^ n) n ≡ b
    top b = ap (λ z. eqb (z / 2 ^ n % 2) 1) (omega arith) ∙ ap (λ z. eqb (z % 2) 1) (digits_div (one_if b) (below_power bits n)) ∙ one b
      where
        one : (b : Bool) → eqb (one_if b % 2) 1 ≡ b
        one true = refl
        one false = refl

    below : (A c r : ℕ) → n ≡ k + 1 + r → (A + c * 2 ^ n) / 2 ^ k % 2 ≡ A / 2 ^ k % 2
    below A c r i =
        let p : 2 ^ n ≡ 2 ^ (1 + r) * 2 ^ k = ap (λ m. 2 ^ m) (omega arith) ∙ pow-add 2 (1 + r) k in
        let q : 2 ^ (1 + r) ≡ 2 * 2 ^ r = pow-add 2 1 r in
        let a : c * 2 ^ n ≡ c * (2 * 2 ^ r) * 2 ^ k = ap (λ m. c * m) (p ∙ ap (λ m. m * 2 ^ k) q) ∙ sym (mul_assoc c (2 * 2 ^ r) (2 ^ k)) in
        let d : (A + c * 2 ^ n) / 2 ^ k ≡ c * (2 * 2 ^ r) + A / 2 ^ k =
        ap (λ m. m / 2 ^ k) (omega (arith, a)) ∙ mul-add-div_right (pow_pos k) (c * (2 * 2 ^ r)) A in
        let e : c * (2 * 2 ^ r) ≡ 2 * (c * 2 ^ r) = sym (mul_assoc c 2 (2 ^ r)) ∙ ap (λ m. m * 2 ^ r) (mul_comm c 2) ∙ mul_assoc 2 c (2 ^ r) in
        ap (λ m. m % 2) d ∙ even (c * (2 * 2 ^ r)) (c * 2 ^ r) (A / 2 ^ k) e
      where
        even : (a b n : ℕ) → a ≡ 2 * b → (a + n) % 2 ≡ n % 2
        even a b n i = omega arith

    by_order : (k < n → bit_of (of_bits bits n) k ≡ bits k) → (k < n) ⊎ (k ≡ n) → bit_of (of_bits bits n + one_if (bits n) * 2 ^ n) k ≡ bits k
    by_order earlier (inl lt) = ap (λ z. eqb z 1) (below (of_bits bits n) (one_if (bits n)) (n - (k + 1)) (omega arith)) ∙ earlier lt
    by_order earlier (inr e) = subst (λ (m : ℕ). bit_of (of_bits bits n + one_if (bits n) * 2 ^ n) m ≡ bits m) (sym e) (top (bits n))

-- all bits turned over
turned : (bits : ℕ → Bool) (n : ℕ) → 2 ^ n - 1 - of_bits bits n ≡ of_bits (λ k. not (bits k)) n
unfolding of_bits
turned bits zero = refl
turned bits (suc n) = with_top (bits n) (turned bits n) (below_power bits n)
  where
    with_top : (b : Bool) → 2 ^ n - 1 - of_bits bits n ≡ of_bits (λ k. not (bits k)) n → of_bits bits n < 2 ^ n → 2 ^ suc n - 1 - (of_bits bits n + one_if b * 2 ^ n) ≡ of_bits (λ k. not (bits k)) n + one_if (not b) * 2 ^ n
    with_top true h lt = let p : 2 ^ suc n ≡ 2 ^ n * 2 = pow-suc 2 n in omega (arith, p)
    with_top false h lt = let p : 2 ^ suc n ≡ 2 ^ n * 2 = pow-suc 2 n in omega (arith, p)

pub bit_complement : (bits : ℕ → Bool) (k : ℕ) → k < 32 → bit_of (complement (of_bits bits 32)) k ≡ not (bits k)
bit_complement bits k h = ap (λ z. bit_of z k) (turned bits 32) ∙ bit_given (λ k. not (bits k)) 32 k h

pub bit_and_given : (x y k : ℕ) → k < 32 → bit_of (word_and x y) k ≡ (bit_of x k && bit_of y k)
unfolding word_and
bit_and_given x y k h = bit_given (λ k. bit_of x k && bit_of y k) 32 k h

pub bit_or_given : (x y k : ℕ) → k < 32 → bit_of (word_or x y) k ≡ (bit_of x k || bit_of y k)
unfolding word_or
bit_or_given x y k h = bit_given (λ k. bit_of x k || bit_of y k) 32 k h

-- a field is the same where its four bits are
pub digit_from_bits : (m x y : ℕ) → ((j : ℕ) → j < 4 → bit_of x (4 * m + j) ≡ bit_of y (4 * m + j)) → digit m x ≡ digit m y
digit_from_bits m x y same = four (digit m x) (digit m y) (omega arith) (omega arith) (at 0 (omega arith)) (at 1 (omega arith)) (at 2 (omega arith)) (at 3 (omega arith))
  where
    tells : (p q : ℕ) → p < 2 → q < 2 → eqb p 1 ≡ eqb q 1 → p ≡ q
    tells p q hp hq e = grind (arith, nat_tests)

    at : (j : ℕ) → j < 4 → digit m x / 2 ^ j % 2 ≡ digit m y / 2 ^ j % 2
    at j h = sym (bit_in_digit x m j h) ∙ tells (x / 2 ^ (4 * m + j) % 2) (y / 2 ^ (4 * m + j) % 2) (omega arith) (omega arith) (same j h) ∙ bit_in_digit y m j h

    four : (a b : ℕ) → a < 16 → b < 16 → a / 2 ^ 0 % 2 ≡ b / 2 ^ 0 % 2 → a / 2 ^ 1 % 2 ≡ b / 2 ^ 1 % 2 → a / 2 ^ 2 % 2 ≡ b / 2 ^ 2 % 2 → a / 2 ^ 3 % 2 ≡ b / 2 ^ 3 % 2 → a ≡ b
    four a b ha hb e f g h = omega arith
