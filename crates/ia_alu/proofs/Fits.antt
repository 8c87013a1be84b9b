-- A product of words read as signed fits a word exactly where its high half is copies of the low half's sign.
use Rattle.std.proofs.Common.{◌≡◌, ℕ, zero, suc, ◌+◌, ◌-◌, ◌*◌, ◌/◌, ◌%◌, ◌^◌, ◌<◌, ◌≤◌, refl, sym, ap, ◌∙◌, add-one, true, eqb, arith, ℤ, pos, negsuc, ◌*ℤ◌, neg_ℤ, unsigned_abs}
use Rattle.std.proofs.Math.Nat.{mul-le-mul, add-mul, mul_comm}
use Rattle.std.proofs.Math.Decide.{dec_le}
use Rattle.std.proofs.lemmas.Bool.Decides.{nat_tests}
use Rattle.std.proofs.lemmas.Int.{ints, unsigned_abs-mul}
use Rattle.word_kit.specs.Prelude.{signed, two_complement, product_low, product_high, fits_word}
use Rattle.ia_codec.specs.Prelude.{sign_copies}

-- the low half of 64 bits that stand for a number
low_half : ℤ → ℕ
low_half z = two_complement 64 z % 2 ^ 32

-- by the number: its 64 bits, and the low half of them
fits_number : (z : ℤ) → unsigned_abs z ≤ 2 ^ 62 → eqb (two_complement 64 z / 2 ^ 32) (sign_copies (two_complement 64 z % 2 ^ 32)) ≡ fits_word z
fits_number (pos n) h = let b : n ≤ 2 ^ 62 = h in grind (arith, nat_tests)
fits_number (negsuc n) h = let b : suc n ≤ 2 ^ 62 = h in grind (arith, nat_tests)

signed_abs : (x : ℕ) → x < 2 ^ 32 → unsigned_abs (signed x) ≤ 2 ^ 31
signed_abs x h = grind (arith, ints, nat_tests)

bound : (a b : ℤ) → unsigned_abs a ≤ 2 ^ 31 → unsigned_abs b ≤ 2 ^ 31 → unsigned_abs (a *ℤ b) ≤ 2 ^ 62
bound a b ha hb = rw (unsigned_abs-mul a b) (room (unsigned_abs a) (unsigned_abs b) ha hb)
  where
    room : (m n : ℕ) → m ≤ 2 ^ 31 → n ≤ 2 ^ 31 → m * n ≤ 2 ^ 62
    room m n hm hn = mul-le-mul hm hn

apart : (a b s y : ℕ) → a + b ≡ s → a * y + b * y ≡ s * y
apart a b s y e = sym (add-mul a b y) ∙ ap (λ k. k * y) e

-- the low half of a negative number's bits
low_of_negative : (k : ℕ) → k ≤ 2 ^ 62 → two_complement 64 (neg_ℤ (pos k)) % 2 ^ 32 ≡ (2 ^ 64 - k) % 2 ^ 32
low_of_negative zero h = refl
low_of_negative (suc n) h = omega (arith, h)

signed_pos : (x : ℕ) → x < 2 ^ 31 → signed x ≡ pos x
signed_pos x h = grind (arith, ints, nat_tests)

signed_neg : (x m : ℕ) → 2 ^ 31 ≤ x → m + 1 + x ≡ 2 ^ 32 → signed x ≡ negsuc m
signed_neg x m h e = grind (arith, ints, nat_tests)

mixed : (x y m : ℕ) → m + 1 + x ≡ 2 ^ 32 → 2 ^ 31 ≤ x → y < 2 ^ 31 → two_complement 64 (neg_ℤ (pos ((m + 1) * y))) % 2 ^ 32 ≡ x * y % 2 ^ 32
mixed x y m e hx hy =
    let d = apart (m + 1) x (2 ^ 32) y e in
    let b : (m + 1) * y ≤ 2 ^ 31 * 2 ^ 31 = let p : m + 1 ≤ 2 ^ 31 = omega arith in let q : y ≤ 2 ^ 31 = omega arith in mul-le-mul p q in
    low_of_negative ((m + 1) * y) (omega arith) ∙ omega (arith, d, b)

both : (x y m n : ℕ) → m + 1 + x ≡ 2 ^ 32 → n + 1 + y ≡ 2 ^ 32 → (m + 1) * (n + 1) % 2 ^ 32 ≡ x * y % 2 ^ 32
both x y m n e f =
    let d = apart (m + 1) x (2 ^ 32) y e in
    let g = apart (m + 1) x (2 ^ 32) (n + 1) e in
    let k = apart (n + 1) y (2 ^ 32) x f in
    let c : (n + 1) * x ≡ x * (n + 1) = mul_comm (n + 1) x in
    let c2 : y * x ≡ x * y = mul_comm y x in
    omega (arith, d, g, k, c, c2)

low_is : (x y : ℕ) → x < 2 ^ 32 → y < 2 ^ 32 → two_complement 64 (signed x *ℤ signed y) % 2 ^ 32 ≡ x * y % 2 ^ 32
low_is x y hx hy = elim (dec_le (2 ^ 31) x) [
  | no lx ↦ elim (dec_le (2 ^ 31) y) [
    | no ly ↦ rw (signed_pos x (omega arith), signed_pos y (omega arith)) refl
    | yes gy ↦ rw (signed_pos x (omega arith), signed_neg y (2 ^ 32 - 1 - y) gy (omega arith)) (
        let e : x * suc (2 ^ 32 - 1 - y) ≡ (2 ^ 32 - 1 - y + 1) * x = ap (λ k. x * k) (sym (add-one (2 ^ 32 - 1 - y))) ∙ mul_comm x (2 ^ 32 - 1 - y + 1) in
        ap (λ k. two_complement 64 (neg_ℤ (pos k)) % 2 ^ 32) e ∙ mixed y x (2 ^ 32 - 1 - y) (omega arith) gy (omega arith) ∙ ap (λ k. k % 2 ^ 32) (mul_comm y x))
  ]
  | yes gx ↦ elim (dec_le (2 ^ 31) y) [
    | no ly ↦ rw (signed_neg x (2 ^ 32 - 1 - x) gx (omega arith), signed_pos y (omega arith)) (
        ap (λ k. two_complement 64 (neg_ℤ (pos (k * y))) % 2 ^ 32) (sym (add-one (2 ^ 32 - 1 - x))) ∙ mixed x y (2 ^ 32 - 1 - x) (omega arith) gx (omega arith))
    | yes gy ↦ rw (signed_neg x (2 ^ 32 - 1 - x) gx (omega arith), signed_neg y (2 ^ 32 - 1 - y) gy (omega arith)) (
        ap (λ k. k * suc (2 ^ 32 - 1 - y) % 2 ^ 32) (sym (add-one (2 ^ 32 - 1 - x))) ∙ ap (λ k. (2 ^ 32 - 1 - x + 1) * k % 2 ^ 32) (sym (add-one (2 ^ 32 - 1 - y)))
        ∙ both x y (2 ^ 32 - 1 - x) (2 ^ 32 - 1 - y) (omega arith) (omega arith))
  ]
]

pub fits_is : (x y : ℕ) → x < 2 ^ 32 → y < 2 ^ 32 → eqb (product_high x y true) (sign_copies (product_low x y)) ≡ fits_word (signed x *ℤ signed y)
fits_is x y hx hy =
    ap (λ n. eqb (product_high x y true) (sign_copies n)) (sym (low_is x y hx hy))
    ∙ fits_number (signed x *ℤ signed y) (bound (signed x) (signed y) (signed_abs x hx) (signed_abs y hy))
