-- The mask of chosen fields, four bits at a time.
use Rattle.std.proofs.Common.{◌≡◌, ℕ, zero, suc, ◌+◌, ◌*◌, ◌/◌, ◌%◌, ◌^◌, ◌<◌, ◌≤◌, refl, ◌∙◌, sym, ap, Bool, true, false, arith}
use Rattle.std.proofs.Math.Nat.{pow-succ', mod-eq_of_lt}
use Rattle.std.proofs.Math.Pow.{pow_mono}
use Rattle.word_kit.specs.Prelude.{one_if, bit_of, of_bits}

one_most : (b : Bool) (p : ℕ) → one_if b * p ≤ p
one_most true p = omega arith
one_most false p = omega arith

-- so many bits stay below the power
pub bits_below : (f : ℕ → Bool) (n : ℕ) → of_bits f n < 2 ^ n
unfolding of_bits
bits_below f zero = omega arith
bits_below f (suc n) =
    let h = bits_below f n in
    let o = one_most (f n) (2 ^ n) in
    rw pow-succ' (omega (arith, h, o))

four : (f : ℕ → Bool) (m : ℕ) → of_bits f (suc (suc (suc (suc m)))) ≡ of_bits f m + one_if (f m) * 2 ^ m + one_if (f (suc m)) * 2 ^ suc m + one_if (f (suc (suc m))) * 2 ^ suc (suc m) + one_if (f (suc (suc (suc m)))) * 2 ^ suc (suc (suc m))
unfolding of_bits
four f m = refl

weights : (b : Bool) (z m : ℕ) → z + one_if b * 2 ^ m + one_if b * 2 ^ suc m + one_if b * 2 ^ suc (suc m) + one_if b * 2 ^ suc (suc (suc m)) ≡ z + one_if b * (15 * 2 ^ m)
weights true z m = rw (pow-succ') (omega arith)
weights false z m = omega arith

at_0 : (n : ℕ) → 4 * n / 4 ≡ n
at_0 n = omega arith

at_1 : (n : ℕ) → suc (4 * n) / 4 ≡ n
at_1 n = omega arith

at_2 : (n : ℕ) → suc (suc (4 * n)) / 4 ≡ n
at_2 n = omega arith

at_3 : (n : ℕ) → suc (suc (suc (4 * n))) / 4 ≡ n
at_3 n = omega arith

-- one field more
pub field_more : (c n : ℕ) → of_bits (λ k. bit_of c (k / 4)) (4 * (n + 1)) ≡ of_bits (λ k. bit_of c (k / 4)) (4 * n) + one_if (bit_of c n) * (15 * 2 ^ (4 * n))
field_more c n =
    let e : 4 * (n + 1) ≡ suc (suc (suc (suc (4 * n)))) = omega arith in
    ap (of_bits (λ k. bit_of c (k / 4))) e ∙ four (λ k. bit_of c (k / 4)) (4 * n) ∙ rw (at_0 n, at_1 n, at_2 n, at_3 n) (weights (bit_of c n) (of_bits (λ k. bit_of c (k / 4)) (4 * n)) (4 * n))

-- it fits a word
pub field_fits : (f : ℕ → Bool) (n : ℕ) → n < 8 → of_bits f (4 * n) + 15 * 2 ^ (4 * n) < 2 ^ 32
field_fits f n h =
    let b = bits_below f (4 * n) in
    let p : 2 ^ (4 * n) ≤ 2 ^ 28 = pow_mono {i = 4 * n} {j = 28} (omega (arith, h)) in
    omega (arith, b, p)

pub init : (f : ℕ → Bool) → 0 ≡ of_bits f 0
unfolding of_bits
init f = refl

field_room : (n : ℕ) → n < 8 → 15 * 2 ^ (4 * n) % 2 ^ 32 ≡ 15 * 2 ^ (4 * n)
field_room n h = let p : 2 ^ (4 * n) ≤ 2 ^ 28 = pow_mono {i = 4 * n} {j = 28} (omega (arith, h)) in mod-eq_of_lt (omega (arith, p))

pub sum_fits : (f : ℕ → Bool) (m n : ℕ) → m ≡ of_bits f (4 * n) → n < 8 → m + 15 * 2 ^ (4 * n) % 2 ^ 32 < 2 ^ 32
sum_fits f m n e h = rw (e, field_room n h) (field_fits f n h)

pub step_on : (c m r n : ℕ) → m ≡ of_bits (λ k. bit_of c (k / 4)) (4 * n) → n < 8 → bit_of c n ≡ true → r ≡ m + 15 * 2 ^ (4 * n) % 2 ^ 32 → r ≡ of_bits (λ k. bit_of c (k / 4)) (4 * (n + 1))
step_on c m r n e h b s = let o : one_if (bit_of c n) * (15 * 2 ^ (4 * n)) ≡ 15 * 2 ^ (4 * n) = rw b (omega arith) in
    s ∙ rw (e, field_room n h) refl ∙ ap (λ k. of_bits (λ k. bit_of c (k / 4)) (4 * n) + k) (sym o) ∙ sym (field_more c n)

pub step_off : (c m r n : ℕ) → m ≡ of_bits (λ k. bit_of c (k / 4)) (4 * n) → bit_of c n ≡ false → r ≡ m → r ≡ of_bits (λ k. bit_of c (k / 4)) (4 * (n + 1))
step_off c m r n e b s = let o : one_if (bit_of c n) * (15 * 2 ^ (4 * n)) ≡ 0 = rw b (omega arith) in
    s ∙ e ∙ sym (field_more c n ∙ ap (λ k. of_bits (λ k. bit_of c (k / 4)) (4 * n) + k) o ∙ omega arith)
