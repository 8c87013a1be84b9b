-- Signs, counts and bits of plain words.
use Rattle.std.proofs.Common.{◌≡◌, ℕ, ◌%◌, ◌^◌, ◌<◌, refl, ap, ◌∙◌, Bool, true, false, cond, ◌&&◌, eqb, min, arith, bit_and}
use Rattle.std.proofs.Math.Nat.{mod-eq_of_lt}
use Rattle.std.proofs.lemmas.Nat.{and_mask}
use Rattle.std.proofs.lemmas.Nat.Bits.{bit_at_and}
use Rattle.std.specs.Int.{bit_at}
use Rattle.std.proofs.lemmas.Bool.Decides.{nat_tests}
use Rattle.word_kit.specs.Prelude.{one_if, is_negative, bit_of, with_bit, word_and, shifted_arith}
use Rattle.word_kit.proofs.BitSums.{of_bits-is}
use Rattle.ia_codec.specs.Prelude.{sign_copies}

-- the top bit is the sign
pub sign_is : (x : ℕ) → x < 2 ^ 32 → bit_of x 31 ≡ is_negative x
sign_is x h = grind (arith, nat_tests)

both_bits : (p q : ℕ) → p < 2 → q < 2 → min p q ≡ one_if (eqb p 1 && eqb q 1)
both_bits p q hp hq = grind (arith, nat_tests)

bit_below : (x k : ℕ) → bit_at x k < 2
bit_below x k = omega arith

-- a count's low five bits
pub count_is : (x : ℕ) → word_and x 31 ≡ x % 32
unfolding word_and
count_is x = of_bits-is (λ k. bit_of x k && bit_of 31 k) (bit_and x 31) 32 (λ k l. bit_at_and x 31 k ∙ both_bits (bit_at x k) (bit_at 31 k) (bit_below x k) (bit_below 31 k))
    ∙ ap (λ n. n % 2 ^ 32) (and_mask x 5) ∙ mod-eq_of_lt (omega arith)

-- a word that is chosen for its lowest bit
pub choose_is : (b c d : Bool) → bit_of (cond b (with_bit 0 0 c) (with_bit 0 0 d)) 0 ≡ cond b c d
choose_is true true d = refl
choose_is true false d = refl
choose_is false c true = refl
choose_is false c false = refl

pub one_is : (b : Bool) → with_bit 0 0 b ≡ one_if b
one_is true = refl
one_is false = refl

pub copies_is : (x : ℕ) → x < 2 ^ 32 → shifted_arith x 31 ≡ sign_copies x
copies_is x h = grind (arith, nat_tests)
