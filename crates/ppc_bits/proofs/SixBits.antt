-- Shifts by six bits, by cases on the highest of them.
use Rattle.std.proofs.Common.{◌≡◌, ℕ, zero, suc, ◌+◌, ◌*◌, ◌/◌, ◌%◌, ◌^◌, ◌<◌, cond, eqb, refl, ap, arith, ◌∙◌, sym}
use Rattle.std.proofs.Math.Nat.{mul-mod_left, div-eq_of_lt, div-div-eq-div-mul}
use Rattle.std.proofs.lemmas.Bool.Decides.{nat_tests}
use Rattle.std.proofs.lemmas.Nat.{pow-add}
use Rattle.std.proofs.Math.Pow.{pow_pos}
use Rattle.word_kit.specs.Prelude.{complement, is_negative, bit_of, shifted_left, shifted_right, shifted_arith}
use Rattle.ppc_isa.specs.ShiftRows.{left_by, right_by, arith_by}

far_amount : (b : ℕ) → b / 2 ^ 5 % 2 ≡ 1 → b % 64 ≡ b % 32 + 32
far_amount b h = omega arith

near_amount : (b : ℕ) → b / 2 ^ 5 % 2 ≡ 0 → b % 64 ≡ b % 32
near_amount b h = omega arith

-- from 32 on nothing is left
left_far : (s n : ℕ) → left_by s (n + 32) ≡ 0
left_far s n =
    let p : 2 ^ (n + 32) ≡ 2 ^ n * 2 ^ 32 = pow-add 2 n 32 in
    let m : s * 2 ^ n * 2 ^ 32 % 2 ^ 32 ≡ 0 = mul-mod_left (s * 2 ^ n) (2 ^ 32) in
    let q : s * 2 ^ n * 2 ^ 32 ≡ s * (2 ^ n * 2 ^ 32) = omega arith in
    rw (p, ← q) m

zero_over : (n : ℕ) → 0 / 2 ^ n ≡ 0
zero_over n = div-eq_of_lt (pow_pos n)

right_far : (s n : ℕ) → s < 2 ^ 32 → right_by s (n + 32) ≡ 0
right_far s n h =
    let p : 2 ^ (n + 32) ≡ 2 ^ 32 * 2 ^ n = ap (λ k. 2 ^ k) (omega arith) ∙ pow-add 2 32 n in
    let z : s / 2 ^ 32 ≡ 0 = div-eq_of_lt h in
    let d : s / 2 ^ 32 / 2 ^ n ≡ s / (2 ^ 32 * 2 ^ n) = div-div-eq-div-mul s (2 ^ 32) (2 ^ n) in
    ap (λ k. s / k) p ∙ sym d ∙ ap (λ k. k / 2 ^ n) z ∙ zero_over n

signs : (s p q : ℕ) → s < 2 ^ 32 → p ≡ 0 → q ≡ 0 → cond (is_negative s) (complement q) p ≡ shifted_arith s 31
signs s p q h ep eq = grind (arith, nat_tests)

-- 31 and more give copies of the sign
arith_far : (s n : ℕ) → s < 2 ^ 32 → arith_by s (n + 32) ≡ shifted_arith s 31
arith_far s n h =
    let a = right_far s n h in
    let b = right_far (complement s) n (omega arith) in
    signs s (s / 2 ^ (n + 32)) (complement s / 2 ^ (n + 32)) h a b

chosen : (bit : ℕ) → bit < 2 → (x y z : ℕ) → (bit ≡ 1 → z ≡ x) → (bit ≡ 0 → z ≡ y) → cond (eqb bit 1) x y ≡ z
chosen zero h x y z f n = sym (n refl)
chosen (suc zero) h x y z f n = sym (f refl)
chosen (suc (suc k)) h x y z f n = absurd (omega (arith, h))

pub left_six : (s b : ℕ) → cond (bit_of b 5) 0 (shifted_left s b) ≡ left_by s (b % 64)
left_six s b =
    let r : b / 2 ^ 5 % 2 < 2 = omega arith in
    let f : b / 2 ^ 5 % 2 ≡ 1 → left_by s (b % 64) ≡ 0 = λ h. ap (λ n. left_by s n) (far_amount b h) ∙ left_far s (b % 32) in
    let n : b / 2 ^ 5 % 2 ≡ 0 → left_by s (b % 64) ≡ shifted_left s b = λ h. ap (λ n. left_by s n) (near_amount b h) in
    chosen (b / 2 ^ 5 % 2) r 0 (shifted_left s b) (left_by s (b % 64)) f n

pub right_six : (s b : ℕ) → s < 2 ^ 32 → cond (bit_of b 5) 0 (shifted_right s b) ≡ right_by s (b % 64)
right_six s b h =
    let r : b / 2 ^ 5 % 2 < 2 = omega arith in
    let f : b / 2 ^ 5 % 2 ≡ 1 → right_by s (b % 64) ≡ 0 = λ k. ap (λ n. right_by s n) (far_amount b k) ∙ right_far s (b % 32) h in
    let n : b / 2 ^ 5 % 2 ≡ 0 → right_by s (b % 64) ≡ shifted_right s b = λ k. ap (λ n. right_by s n) (near_amount b k) in
    chosen (b / 2 ^ 5 % 2) r 0 (shifted_right s b) (right_by s (b % 64)) f n

pub sign_bit : (s : ℕ) → s < 2 ^ 32 → bit_of s 31 ≡ is_negative s
sign_bit s h = grind (arith, nat_tests)

pub arith_six : (s b : ℕ) → s < 2 ^ 32 → cond (bit_of b 5) (shifted_arith s 31) (shifted_arith s b) ≡ arith_by s (b % 64)
arith_six s b h =
    let r : b / 2 ^ 5 % 2 < 2 = omega arith in
    let f : b / 2 ^ 5 % 2 ≡ 1 → arith_by s (b % 64) ≡ shifted_arith s 31 = λ k. ap (λ n. arith_by s n) (far_amount b k) ∙ arith_far s (b % 32) h in
    let n : b / 2 ^ 5 % 2 ≡ 0 → arith_by s (b % 64) ≡ shifted_arith s b = λ k. ap (λ n. arith_by s n) (near_amount b k) in
    chosen (b / 2 ^ 5 % 2) r (shifted_arith s 31) (shifted_arith s b) (arith_by s (b % 64)) f n
