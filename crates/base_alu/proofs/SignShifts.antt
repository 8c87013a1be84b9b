-- Algebraic shifts, and their CA.
use Rattle.std.proofs.Common.{◌≡◌, ℕ, ◌+◌, ◌-◌, ◌*◌, ◌/◌, ◌%◌, ◌^◌, ◌<◌, ◌≤◌, Bool, true, false, cond, not, ◌&&◌, eqb, leb, ◌++◌, bit_and, bit_xor, refl, sym, ap, ◌∙◌, subst, mul_assoc, arith}
use Rattle.std.specs.Int.Bits.{xor_zero_l, xor_zero_r, xor_self, xor_assoc, and_zero_l}
use Rattle.std.proofs.Math.Nat.{mod-lt, mod-eq_of_lt, div-eq_of_lt, div-le_self, mul-mod_left}
use Rattle.std.proofs.Math.Pow.{pow_pos, split, pow_mono}
use Rattle.std.proofs.lemmas.Nat.{pow-add, pow_below, and_comm, and_mask, div-mul-add, xor_lt}
use Rattle.std.proofs.lemmas.Nat.Bits.{and_pow}
use Rattle.std.proofs.lemmas.Bool.{eqb-true}
use Rattle.std.proofs.lemmas.Bool.Decides.{nat_tests}
use Rattle.machines.specs.Prelude.{one_if, complement, is_negative, shifted_arith, shifted_left, Instr, ShiftImmediate, Logic, Sraw, IsLegal, arith_by, loses_ones, left_by, Sar}
use Rattle.word_kit.proofs.Rooms.{below_factor}
use Rattle.symbolic_tiles.specs.Prelude.{IsTileOf, record_ops}
use Rattle.base_alu.specs.Shifts.{srawi_ops, sraw_ops}
use Rattle.symbolic_tiles.proofs.Memory.{update_other}
use Rattle.row_laws.proofs.Shapes.{shifts}
use Rattle.row_laws.proofs.Changes.{values_in}
use Rattle.symbolic_tiles.proofs.Rooms.{shift_word}
use Rattle.symbolic_tiles.proofs.Results.{put_last, results_do}
use Rattle.symbolic_tiles.proofs.Registers.{word, gpr}

-- 32 copies of the sign
abbrev pub copies : ℕ → ℕ
copies s = cond (is_negative s) (2 ^ 32 - 1) 0

sign_31 : (s : ℕ) → s < 2 ^ 32 → shifted_arith s 31 ≡ copies s
sign_31 s h = grind (arith, nat_tests)

two_parts : (n : ℕ) → n < 32 → 2 ^ (32 - n) * 2 ^ n ≡ 2 ^ 32
two_parts n h = let e : 32 - n + n ≡ 32 = omega arith in sym (pow-add 2 (32 - n) n) ∙ ap (λ k. 2 ^ k) e

-- shifted to the right and back, a negative word has lost its low bits
back : (s q r u M : ℕ) → q * u + r ≡ s → r < u → M * u ≡ 2 ^ 32 → q < M → s < 2 ^ 32 → complement (complement s / u) * u % 2 ^ 32 ≡ q * u
back s q r u M es hr eM hq hs =
    let d : ℕ = M - 1 - q in
    let eM' : d + q + 1 ≡ M = omega arith in
    let e1 : (d + q + 1) * u ≡ 2 ^ 32 = ap (λ k. k * u) eM' ∙ eM in
    let t : complement s ≡ d * u + (u - 1 - r) = omega (arith, e1) in
    let dv : complement s / u ≡ d = ap (λ k. k / u) t ∙ div-mul-add d u (u - 1 - r) (omega arith) in
    let c : ℕ = 2 ^ 32 - 1 - d in
    let bound : d < 2 ^ 32 = by_bound d u (omega arith) (omega (arith, e1)) in
    let ec : c + d + 1 ≡ 2 ^ 32 = omega arith in
    let e2 : (c + d + 1) * u ≡ 2 ^ 32 * u = ap (λ k. k * u) ec in
    ap (λ k. complement k * u % 2 ^ 32) dv ∙ last (c * u) (q * u) u (omega arith) (omega (arith, e1, e2)) (omega arith)
  where
    by_bound : (d u : ℕ) → 0 < u → d * u < 2 ^ 32 → d < 2 ^ 32
    by_bound d u hu h = below_factor d u (2 ^ 32) (let k : 2 ^ 32 * 1 ≤ 2 ^ 32 * u = omega arith in omega (arith, h, k))

    last : (x y u : ℕ) → 0 < u → x + 2 ^ 32 ≡ 2 ^ 32 * u + y → y < 2 ^ 32 → x % 2 ^ 32 ≡ y
    last x y u hu e hy = omega arith

pub lost : (s n : ℕ) → n < 32 → s < 2 ^ 32 → loses_ones s n ≡ (is_negative s && not (eqb (s % 2 ^ n) 0))
lost s n hn hs = by_sign (is_negative s) refl
  where
    low : eqb (s / 2 ^ n * 2 ^ n) s ≡ eqb (s % 2 ^ n) 0
    low = let e = split s n in grind (arith, nat_tests)

    kept : complement (complement s / 2 ^ n) * 2 ^ n % 2 ^ 32 ≡ s / 2 ^ n * 2 ^ n
    kept = let u = pow_pos n in let e = two_parts n hn in let sp = split s n in
        back s (s / 2 ^ n) (s % 2 ^ n) (2 ^ n) (2 ^ (32 - n)) sp (mod-lt s u) e (below_factor (s / 2 ^ n) (2 ^ n) (2 ^ (32 - n)) (omega arith)) hs

    by_sign : (b : Bool) → is_negative s ≡ b → (b && not (eqb (cond b (complement (complement s / 2 ^ n)) (s / 2 ^ n) * 2 ^ n % 2 ^ 32) s)) ≡ (b && not (eqb (s % 2 ^ n) 0))
    by_sign true e = ap (λ k. not (eqb k s)) kept ∙ ap not low
    by_sign false e = refl

masked_copies : (b : Bool) (s n : ℕ) → n < 32 → s < 2 ^ 32 → not (eqb (bit_and (bit_and (cond b (2 ^ 32 - 1) 0) (2 ^ n - 1)) s) 0) ≡ (b && not (eqb (s % 2 ^ n) 0))
masked_copies true s n hn hs =
    let p = pow_below n 32 hn in
    let m : bit_and (2 ^ 32 - 1) (2 ^ n - 1) ≡ 2 ^ n - 1 = and_comm (2 ^ 32 - 1) (2 ^ n - 1) ∙ and_mask (2 ^ n - 1) 32 ∙ mod-eq_of_lt (omega arith) in
    ap (λ k. not (eqb (bit_and k s) 0)) m ∙ ap (λ k. not (eqb k 0)) (and_comm (2 ^ n - 1) s ∙ and_mask s n)
masked_copies false s n hn hs = ap (λ k. not (eqb (bit_and k s) 0)) (and_zero_l (2 ^ n - 1)) ∙ ap (λ k. not (eqb k 0)) (and_zero_l s)

small_count : (n : ℕ) → n < 32 → n % 32 % 32 ≡ n
small_count n h = omega arith

pub srawi_does : (s a n : ℕ) (records : Bool) → IsLegal (ShiftImmediate s a n records) → IsTileOf (ShiftImmediate s a n records) (srawi_ops s a n ++ record_ops records)
srawi_does s a n records legal =
    results_do i a true records (λ g. arith_by (g.locs s) n) (λ g. loses_ones (g.locs s) n) la (srawi_ops s a n) legal
    ((tt, word s ls), ((tt, omega arith), ((tt, (let p = pow_below n 32 ln in omega arith)), ((tt, word s ls), ((omega arith, omega arith), ((tt, word s ls), ((tt, ln), ((word a la, tt), tt))))))))
    (omega arith) (λ guest g. refl) (λ g. shifts records n (values_in i g))
    (λ guest host g regs flags choices range words.
    let S = g.locs s in
    let hS = gpr g s range ls in
    let w : shifted_arith S (n % 32) ≡ arith_by S n = ap (λ k. cond (is_negative S) (complement (complement S / 2 ^ k)) (S / 2 ^ k)) (small_count n ln) in
    let c : not (eqb (bit_and (bit_and (shifted_arith S (31 % 32)) (2 ^ n - 1)) S) 0) ≡ loses_ones S n = ap (λ k. not (eqb (bit_and (bit_and k (2 ^ n - 1)) S) 0)) (sign_31 S hS) ∙ masked_copies (is_negative S) S n ln hS ∙ sym (lost S n ln hS) in
    let again = ap (λ k. shifted_arith k (n % 32)) (update_other g.locs 42 (one_if (not (eqb (bit_and (bit_and (shifted_arith S (31 % 32)) (2 ^ n - 1)) S) 0))) s (λ q. omega arith)) ∙ w in
    (subst (λ k. k < 2 ^ 32) w (shift_word Sar S (n % 32) hS), (again, put_last g.locs a (word a la) again c, refl)))
  where
    i : Instr
    i = ShiftImmediate s a n records

    ls : s < 32
    ls = legal.fit.1.0

    la : a < 32
    la = legal.fit.1.1.0

    ln : n < 32
    ln = legal.fit.1.1.1.0

-- a count of six bits: the low five, and whether it is 32 or more
pub test_32 : (b : ℕ) → not (eqb (bit_and b 32) 0) ≡ leb 32 (b % 64)
test_32 b = ap (λ k. not (eqb k 0)) (and_pow b 5) ∙ by_bit (b / 2 ^ 5 % 2) refl
  where
    by_bit : (k : ℕ) → b / 2 ^ 5 % 2 ≡ k → not (eqb (k * 2 ^ 5) 0) ≡ leb 32 (b % 64)
    by_bit k e = grind (arith, nat_tests)

-- past 32 copies of the sign alone are left
far_word : (s n : ℕ) → 32 ≤ n → s < 2 ^ 32 → arith_by s n ≡ copies s
far_word s n hn hs =
    let p : 2 ^ 32 ≤ 2 ^ n = pow_mono {i = 32} {j = n} hn in
    let a : s / 2 ^ n ≡ 0 = small s (2 ^ n) (omega (arith, p)) in
    let b : complement s / 2 ^ n ≡ 0 = small (complement s) (2 ^ n) (omega (arith, p)) in
    ap (λ k. cond (is_negative s) (complement (complement s / 2 ^ n)) k) a ∙ ap (λ k. cond (is_negative s) (complement k) 0) b
  where
    small : (x m : ℕ) → x < m → x / m ≡ 0
    small x m h = div-eq_of_lt h

equal_by_xor : (a b : ℕ) → bit_xor a b ≡ 0 → a ≡ b
equal_by_xor a b h = sym (xor_zero_r a) ∙ ap (bit_xor a) (sym (xor_self b)) ∙ sym (xor_assoc a b b) ∙ ap (λ k. bit_xor k b) h ∙ xor_zero_l b

pub xor_test : (a b : ℕ) → eqb (bit_xor a b) 0 ≡ eqb a b
xor_test a b = by_tests (eqb (bit_xor a b) 0) (eqb a b) refl refl
  where
    by_tests : (p q : Bool) → eqb (bit_xor a b) 0 ≡ p → eqb a b ≡ q → p ≡ q
    by_tests true true hp hq = refl
    by_tests false false hp hq = refl
    by_tests true false hp hq = let e = equal_by_xor a b (eqb-true (bit_xor a b) 0 hp) in grind (arith, nat_tests)
    by_tests false true hp hq = let e = eqb-true a b hq in let z : bit_xor a b ≡ 0 = ap (λ k. bit_xor k b) e ∙ xor_self b in grind (arith, nat_tests)

-- the tile's test for CA, with what is left of the word when it is shifted back
lost_test : (K s : ℕ) → K < 2 ^ 32 → s < 2 ^ 32 → not (eqb (bit_and (bit_xor K s) (copies s)) 0) ≡ (is_negative s && not (eqb K s))
lost_test K s hK hs = by_sign (is_negative s)
  where
    by_sign : (b : Bool) → not (eqb (bit_and (bit_xor K s) (cond b (2 ^ 32 - 1) 0)) 0) ≡ (b && not (eqb K s))
    by_sign true = ap (λ k. not (eqb k 0)) (and_mask (bit_xor K s) 32 ∙ mod-eq_of_lt (xor_lt 32 K s hK hs)) ∙ ap not (xor_test K s)
    by_sign false = ap (λ k. not (eqb k 0)) (and_comm (bit_xor K s) 0 ∙ and_zero_l (bit_xor K s))

pub near_count : (b : ℕ) → leb 32 (b % 64) ≡ false → b % 2 ^ 8 % 32 % 32 ≡ b % 64
near_count b h = grind (arith, nat_tests)

pub far_count : (b : ℕ) → leb 32 (b % 64) ≡ true → 32 ≤ b % 64
far_count b h = grind (arith, nat_tests)

-- what the tile shifts to the right is the row's, and so is what it shifts back
pub right_is : (far : Bool) (b s : ℕ) → leb 32 (b % 64) ≡ far → s < 2 ^ 32 → cond far (copies s) (shifted_arith s (b % 2 ^ 8 % 32)) ≡ arith_by s (b % 64)
right_is true b s e hs = sym (far_word s (b % 64) (far_count b e) hs)
right_is false b s e hs = ap (λ k. cond (is_negative s) (complement (complement s / 2 ^ k)) (s / 2 ^ k)) (near_count b e)

back_is : (far : Bool) (b s : ℕ) → leb 32 (b % 64) ≡ far → s < 2 ^ 32 → cond far 0 (shifted_left (shifted_arith s (b % 2 ^ 8 % 32)) (b % 2 ^ 8 % 32)) ≡ left_by (arith_by s (b % 64)) (b % 64)
back_is false b s e hs = ap (λ k. cond (is_negative s) (complement (complement s / 2 ^ k)) (s / 2 ^ k) * 2 ^ k % 2 ^ 32) (near_count b e)
back_is true b s e hs =
    let n = b % 64 in
    let h = far_count b e in
    let t : n - 32 + 32 ≡ n = omega arith in
    let p : 2 ^ n ≡ 2 ^ (n - 32) * 2 ^ 32 = ap (λ k. 2 ^ k) (sym t) ∙ pow-add 2 (n - 32) 32 in
    let q : arith_by s n * 2 ^ n ≡ arith_by s n * 2 ^ (n - 32) * 2 ^ 32 = ap (λ k. arith_by s n * k) p ∙ sym (mul_assoc (arith_by s n) (2 ^ (n - 32)) (2 ^ 32)) in
    sym (ap (λ k. k % 2 ^ 32) q ∙ mul-mod_left (arith_by s n * 2 ^ (n - 32)) (2 ^ 32))

pub sraw_does : (s a b : ℕ) (records : Bool) → IsLegal (Logic Sraw s a b records) → IsTileOf (Logic Sraw s a b records) (sraw_ops s a b ++ record_ops records)
sraw_does s a b records legal =
    results_do i a true records (λ g. arith_by (g.locs s) (g.locs b % 64)) (λ g. loses_ones (g.locs s) (g.locs b % 64)) la (sraw_ops s a b) legal
    ((tt, word b lb), ((tt, word s ls), (tt, (tt, ((tt, omega arith), ((tt, omega arith), ((tt, tt), ((tt, word s ls), ((tt, word s ls), ((tt, omega arith), ((tt, tt), ((omega arith, omega arith), ((tt, word s ls), (tt, ((tt, omega arith), ((tt, tt), ((word a la, tt), tt)))))))))))))))))
    (omega arith) (λ guest g. refl) (λ g. shifts records (g.locs b % 64) (values_in i g))
    (λ guest host g regs flags choices range words.
    let S = g.locs s in
    let B = g.locs b in
    let hS = gpr g s range ls in
    let far = leb 32 (B % 64) in
    let K = cond (not (eqb (bit_and B 32) 0)) 0 (shifted_left (shifted_arith S (B % 2 ^ 8 % 32)) (B % 2 ^ 8 % 32)) in
    let eK : K ≡ left_by (arith_by S (B % 64)) (B % 64) = ap (λ (t : Bool). cond t 0 (shifted_left (shifted_arith S (B % 2 ^ 8 % 32)) (B % 2 ^ 8 % 32))) (test_32 B) ∙ back_is far B S refl hS in
    let hK : K < 2 ^ 32 = subst (λ k. k < 2 ^ 32) (sym eK) (mod-lt (arith_by S (B % 64) * 2 ^ (B % 64)) (omega arith)) in
    let c : not (eqb (bit_and (bit_xor K S) (shifted_arith S (31 % 32))) 0) ≡ loses_ones S (B % 64) = ap (λ k. not (eqb (bit_and (bit_xor K S) k) 0)) (sign_31 S hS) ∙ lost_test K S hK hS ∙ ap (λ k. is_negative S && not (eqb k S)) eK in
    let kept = update_other g.locs 42 (one_if (not (eqb (bit_and (bit_xor K S) (shifted_arith S (31 % 32))) 0))) s (λ q. omega arith) in
    let w : cond (not (eqb (bit_and B 32) 0)) (shifted_arith S (31 % 32)) (shifted_arith S (B % 2 ^ 8 % 32)) ≡ arith_by S (B % 64) =
    ap (λ (t : Bool). cond t (shifted_arith S (31 % 32)) (shifted_arith S (B % 2 ^ 8 % 32))) (test_32 B) ∙ ap (λ k. cond far k (shifted_arith S (B % 2 ^ 8 % 32))) (sign_31 S hS) ∙ right_is far B S refl hS in
    let again = ap (λ k. cond (not (eqb (bit_and B 32) 0)) (shifted_arith S (31 % 32)) (shifted_arith k (B % 2 ^ 8 % 32))) kept ∙ w in
    (arith_small S (B % 64) hS, (again, put_last g.locs a (word a la) again c, refl)))
  where
    i : Instr
    i = Logic Sraw s a b records

    ls : s < 32
    ls = legal.fit.1.0

    la : a < 32
    la = legal.fit.1.1.0

    lb : b < 32
    lb = legal.fit.1.1.1.0

    arith_small : (s n : ℕ) → s < 2 ^ 32 → arith_by s n < 2 ^ 32
    arith_small s n h = by_sign (is_negative s) (div-le_self s (2 ^ n))
      where
        by_sign : (t : Bool) → s / 2 ^ n ≤ s → cond t (complement (complement s / 2 ^ n)) (s / 2 ^ n) < 2 ^ 32
        by_sign true e = omega arith
        by_sign false e = omega (arith, e, h)
