-- Halves of products, quotients and remainders are words.
use Rattle.std.proofs.Common.{◌≡◌, ℕ, ◌*◌, ◌/◌, ◌%◌, ◌^◌, ◌<◌, ◌≤◌, ◌⊎◌, inl, inr, Bool, true, false, cond, not, ◌||◌, eqb, leb, ℤ, pos, negsuc, ◌*ℤ◌, unsigned_abs, FitsSigned, w64, refl, sym, subst, arith}
use Rattle.std.proofs.Math.Nat.{mod-lt}
use Rattle.std.proofs.lemmas.Nat.{mul-lt, div_below}
use Rattle.std.proofs.lemmas.Int.{fits_signed_mul, rem_below}
use Rattle.std.proofs.lemmas.Bool.Decides.{nat_tests}
use Rattle.machines.specs.Prelude.{signed, signed_in, two_complement, product_high, two_words, fits_word, signed_quotient, signed_remainder, divide_faults, quotient, remainder}
use Rattle.symbolic_tiles.proofs.Signed.{signed_low, signed_high}

pub abs_signed : (x : ℕ) → x < 2 ^ 32 → unsigned_abs (signed x) ≤ 2 ^ 31
abs_signed x h = by_sign (grind arith)
  where
    by_sign : (x < 2 ^ 31) ⊎ (2 ^ 31 ≤ x) → unsigned_abs (signed x) ≤ 2 ^ 31
    by_sign (inl l) = subst (λ z. unsigned_abs z ≤ 2 ^ 31) (sym (signed_low x l)) (omega arith)
    by_sign (inr l) = subst (λ z. unsigned_abs z ≤ 2 ^ 31) (sym (signed_high x l h)) (omega arith)

complement_64 : (z : ℤ) → FitsSigned w64 z → two_complement 64 z < 2 ^ 64
complement_64 (pos n) f = let b = f.sfits in omega arith
complement_64 (negsuc n) f = omega arith

pub high_word : (x y : ℕ) (s : Bool) → x < 2 ^ 32 → y < 2 ^ 32 → product_high x y s < 2 ^ 32
high_word x y true hx hy =
    let b = complement_64 (signed x *ℤ signed y) (fits_signed_mul w64 (signed x) (signed y) (2 ^ 31) (2 ^ 31) (abs_signed x hx) (abs_signed y hy) (omega arith)) in
    high (two_complement 64 (signed x *ℤ signed y)) b
  where
    high : (n : ℕ) → n < 2 ^ 64 → n / 2 ^ 32 < 2 ^ 32
    high n h = omega arith
high_word x y false hx hy = div_below (x * y) (2 ^ 32) (2 ^ 32) (omega arith) (mul-lt x y (2 ^ 32) (2 ^ 32) hx hy)

-- where a division doesn't fault
quotient_fits : (z : ℤ) → fits_word z ≡ true → two_complement 32 z < 2 ^ 32
quotient_fits (pos n) f = let l : n < 2 ^ 31 = grind (arith, nat_tests) in omega arith
quotient_fits (negsuc n) f = omega arith

remainder_fits : (z : ℤ) → unsigned_abs z < 2 ^ 32 → two_complement 32 z < 2 ^ 32
remainder_fits (pos n) l = omega arith
remainder_fits (negsuc n) l = omega arith

some_abs : (x : ℕ) → x < 2 ^ 32 → eqb x 0 ≡ false → 0 < unsigned_abs (signed x)
some_abs x h e = by_sign (grind arith)
  where
    by_sign : (x < 2 ^ 31) ⊎ (2 ^ 31 ≤ x) → 0 < unsigned_abs (signed x)
    by_sign (inl l) = subst (λ z. 0 < unsigned_abs z) (sym (signed_low x l)) (let k : 0 < x = grind (arith, nat_tests) in omega arith)
    by_sign (inr l) = subst (λ z. 0 < unsigned_abs z) (sym (signed_high x l h)) (omega arith)

pub parts_words : (hi lo by : ℕ) (s : Bool) → by < 2 ^ 32 → divide_faults hi lo by s ≡ false → (quotient hi lo by s < 2 ^ 32) × (remainder hi lo by s < 2 ^ 32)
parts_words hi lo by true h e =
    let z = neither (eqb by 0) (not (fits_word (signed_quotient hi lo by))) e in
    let q = quotient_fits (signed_quotient hi lo by) (turned (fits_word (signed_quotient hi lo by)) z.1) in
    let r = rem_below (signed_in 64 (two_words hi lo)) (signed by) (some_abs by h z.0) in
    let a = abs_signed by h in
    let m = remainder_fits (signed_remainder hi lo by) (omega (arith, r, a)) in
    (subst (λ (b : Bool). cond b 0 (two_complement 32 (signed_quotient hi lo by)) < 2 ^ 32) (sym e) q, subst (λ (b : Bool). cond b 0 (two_complement 32 (signed_remainder hi lo by)) < 2 ^ 32) (sym e) m)
  where
    neither : (p q : Bool) → (p || q) ≡ false → (p ≡ false) × (q ≡ false)
    neither true q e = absurd cc
    neither false q e = (refl, e)

    turned : (p : Bool) → not p ≡ false → p ≡ true
    turned true e = refl
    turned false e = absurd cc
parts_words hi lo by false h e =
    let z = neither (eqb by 0) (leb (2 ^ 32) (two_words hi lo / by)) e in
    let l : two_words hi lo / by < 2 ^ 32 = let t = z.1 in small (two_words hi lo / by) t in
    let p : 0 < by = let t = z.0 in positive by t in
    let m = mod-lt (two_words hi lo) p in
    (subst (λ (b : Bool). cond b 0 (two_words hi lo / by) < 2 ^ 32) (sym e) l, subst (λ (b : Bool). cond b 0 (two_words hi lo % by) < 2 ^ 32) (sym e) (omega (arith, m, h)))
  where
    neither : (p q : Bool) → (p || q) ≡ false → (p ≡ false) × (q ≡ false)
    neither true q e = absurd cc
    neither false q e = (refl, e)

    small : (n : ℕ) → leb (2 ^ 32) n ≡ false → n < 2 ^ 32
    small n t = grind (arith, nat_tests)

    positive : (n : ℕ) → eqb n 0 ≡ false → 0 < n
    positive n t = grind (arith, nat_tests)
