-- The fields of CR that FXM chooses get those of another word, and the others stay.
use Rattle.std.proofs.Common.{◌≡◌, ℕ, ◌+◌, ◌*◌, ◌/◌, ◌<◌, Bool, true, false, not, ◌&&◌, ◌||◌, refl, ap, ◌∙◌, arith}
use Rattle.machines.specs.Prelude.{complement, bit_of, word_and, word_or, fields_mask}
use Rattle.row_laws.proofs.Digits.{digit}
use Rattle.row_laws.proofs.Bits.{bit_given, bit_complement, bit_and_given, bit_or_given, digit_from_bits}

abbrev pub put_fields : ℕ → ℕ → ℕ → ℕ
put_fields mask s cr = word_or (word_and s (fields_mask mask)) (word_and cr (complement (fields_mask mask)))

bit_put : (mask s cr m j : ℕ) → m < 8 → j < 4 → (b : Bool) → bit_of mask m ≡ b →
    bit_of (put_fields mask s cr) (4 * m + j) ≡ ((bit_of s (4 * m + j) && b) || (bit_of cr (4 * m + j) && not b))
unfolding fields_mask
bit_put mask s cr m j hm hj b e =
    let k = 4 * m + j in
    let lt : 4 * m + j < 32 = omega arith in
    let q : (4 * m + j) / 4 ≡ m = omega arith in
    let t : bit_of (fields_mask mask) (4 * m + j) ≡ b = bit_given (λ k. bit_of mask (k / 4)) 32 k lt ∙ ap (bit_of mask) q ∙ e in
    let n : bit_of (complement (fields_mask mask)) (4 * m + j) ≡ not b = bit_complement (λ k. bit_of mask (k / 4)) k lt ∙ ap (λ i. not (bit_of mask i)) q ∙ ap not e in
    bit_or_given (word_and s (fields_mask mask)) (word_and cr (complement (fields_mask mask))) k lt
    ∙ ap (λ z. z || bit_of (word_and cr (complement (fields_mask mask))) k) (bit_and_given s (fields_mask mask) k lt ∙ ap (λ z. bit_of s k && z) t)
    ∙ ap (λ z. (bit_of s k && b) || z) (bit_and_given cr (complement (fields_mask mask)) k lt ∙ ap (λ z. bit_of cr k && z) n)

pub field_chosen : (mask s cr m : ℕ) → m < 8 → bit_of mask m ≡ true → digit m (put_fields mask s cr) ≡ digit m s
field_chosen mask s cr m h e = digit_from_bits m (put_fields mask s cr) s (λ j lt. bit_put mask s cr m j h lt true e ∙ left (bit_of s (4 * m + j)) (bit_of cr (4 * m + j)))
  where
    left : (p q : Bool) → ((p && true) || (q && false)) ≡ p
    left true true = refl
    left true false = refl
    left false true = refl
    left false false = refl

pub field_kept : (mask s cr m : ℕ) → m < 8 → bit_of mask m ≡ false → digit m (put_fields mask s cr) ≡ digit m cr
field_kept mask s cr m h e = digit_from_bits m (put_fields mask s cr) cr (λ j lt. bit_put mask s cr m j h lt false e ∙ right (bit_of s (4 * m + j)) (bit_of cr (4 * m + j)))
  where
    right : (p q : Bool) → ((p && false) || (q && true)) ≡ q
    right true true = refl
    right true false = refl
    right false true = refl
    right false false = refl
