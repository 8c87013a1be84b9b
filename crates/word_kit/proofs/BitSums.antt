-- Numbers by their bits, and the operations of std on them.
use Rattle.std.proofs.Common.{◌≡◌, ℕ, zero, suc, ◌+◌, ◌*◌, ◌/◌, ◌%◌, ◌^◌, ◌<◌, refl, ◌∙◌, min, max, Bool, eqb, not, ◌&&◌, ◌||◌, arith, bit_and, bit_or, bit_xor}
use Rattle.std.proofs.Math.Nat.{pow-succ', mod-eq_of_lt}
use Rattle.std.proofs.Math.Arith.{mod-mul}
use Rattle.std.proofs.Math.Pow.{pow_pos}
use Rattle.std.specs.Int.Bits.{and_lt}
use Rattle.std.proofs.lemmas.Nat.{or_lt, xor_lt}
use Rattle.std.proofs.lemmas.Bool.Decides.{nat_tests}
use Rattle.std.proofs.lemmas.Nat.Bits.{bit_at_and, bit_at_or, bit_at_xor}
use Rattle.std.specs.Int.{bit_at}
use Rattle.word_kit.specs.Prelude.{one_if, same, bit_of, of_bits, word_and, word_or, word_xor}

-- the low bits of a number, and one more
pub low_bits_suc : (z n : ℕ) → z % 2 ^ suc n ≡ z % 2 ^ n + z / 2 ^ n % 2 * 2 ^ n
low_bits_suc z n = let pos_n : 0 < 2 ^ n = pow_pos n in let e : z % (2 * 2 ^ n) ≡ z / 2 ^ n % 2 * 2 ^ n + z % 2 ^ n = mod-mul z {m = 2} {c = 2 ^ n} (omega arith) pos_n in
    rw pow-succ' (omega (arith, e))

-- a number is what its bits are
pub of_bits-is : (bits : ℕ → Bool) (z n : ℕ) → ((k : ℕ) → k < n → bit_at z k ≡ one_if (bits k)) → of_bits bits n ≡ z % 2 ^ n
unfolding of_bits
of_bits-is bits z zero h = omega arith
of_bits-is bits z (suc n) h =
    let below = of_bits-is bits z n (λ k l. h k (omega arith)) in
    let low = low_bits_suc z n in
    let top : z / 2 ^ n % 2 ≡ one_if (bits n) = h n (omega arith) in
    rw (low, top, below) refl

bit_below : (x k : ℕ) → bit_at x k < 2
bit_below x k = omega arith

both_bits : (p q : ℕ) → p < 2 → q < 2 → min p q ≡ one_if (eqb p 1 && eqb q 1)
both_bits p q hp hq = grind (arith, nat_tests)

either_bit : (p q : ℕ) → p < 2 → q < 2 → max p q ≡ one_if (eqb p 1 || eqb q 1)
either_bit p q hp hq = grind (arith, nat_tests)

one_bit : (p q : ℕ) → p < 2 → q < 2 → (p + q) % 2 ≡ one_if (not (same (eqb p 1) (eqb q 1)))
one_bit p q hp hq = grind (arith, nat_tests)

pub word_and-is : (x y : ℕ) → x < 2 ^ 32 → y < 2 ^ 32 → word_and x y ≡ bit_and x y
unfolding word_and
word_and-is x y hx hy =
    of_bits-is (λ k. bit_of x k && bit_of y k) (bit_and x y) 32 (λ k l. bit_at_and x y k ∙ both_bits (bit_at x k) (bit_at y k) (bit_below x k) (bit_below y k)) ∙ mod-eq_of_lt (and_lt 32 x y hx hy)

pub word_or-is : (x y : ℕ) → x < 2 ^ 32 → y < 2 ^ 32 → word_or x y ≡ bit_or x y
unfolding word_or
word_or-is x y hx hy =
    of_bits-is (λ k. bit_of x k || bit_of y k) (bit_or x y) 32 (λ k l. bit_at_or x y k ∙ either_bit (bit_at x k) (bit_at y k) (bit_below x k) (bit_below y k)) ∙ mod-eq_of_lt (or_lt 32 x y hx hy)

pub word_xor-is : (x y : ℕ) → x < 2 ^ 32 → y < 2 ^ 32 → word_xor x y ≡ bit_xor x y
unfolding word_xor
word_xor-is x y hx hy =
    of_bits-is (λ k. not (same (bit_of x k) (bit_of y k))) (bit_xor x y) 32 (λ k l. bit_at_xor x y k ∙ one_bit (bit_at x k) (bit_at y k) (bit_below x k) (bit_below y k)) ∙ mod-eq_of_lt (xor_lt 32 x y hx hy)
