-- CR and XER as words, and the bytes of words. This project's own.
use Rattle.std.proofs.Common.{◌≡◌, ℕ, zero, suc, ◌+◌, ◌-◌, ◌*◌, ◌/◌, ◌%◌, ◌^◌, ◌<◌, ◌≤◌, Bool, true, false, refl, ap, ◌∙◌, arith}
use Rattle.word_kit.specs.Prelude.{bit_of, with_bit, one_if}
use Rattle.machines.specs.Prelude.{cr_word}

-- a number below 2 is its bit
pub as_bit : (x : ℕ) → x < 2 → one_if (bit_of x 0) ≡ x
as_bit zero lt = refl
as_bit (suc zero) lt = refl
as_bit (suc (suc x)) lt = absurd (omega (arith, lt))

pub bit_back : (b : Bool) → bit_of (one_if b) 0 ≡ b
bit_back true = refl
bit_back false = refl

pub bit_small : (b : Bool) → one_if b < 2
bit_small true = omega arith
bit_small false = omega arith

-- XER put together bit by bit
pub xer_is : (xc ca ov so : ℕ) → xc < 128 → ca < 2 → ov < 2 → so < 2 →
    with_bit (with_bit (with_bit xc 29 (bit_of ca 0)) 30 (bit_of ov 0)) 31 (bit_of so 0) ≡ so * 2 ^ 31 + ov * 2 ^ 30 + ca * 2 ^ 29 + xc
xer_is xc ca ov so lx lc lo ls =
    let ec = as_bit ca lc in let eo = as_bit ov lo in let es = as_bit so ls in
    let one : with_bit xc 29 (bit_of ca 0) ≡ xc + ca * 2 ^ 29 = ap (λ v. xc - xc / 2 ^ 29 % 2 * 2 ^ 29 + v * 2 ^ 29) ec ∙ omega (arith, lx) in
    let two : with_bit (xc + ca * 2 ^ 29) 30 (bit_of ov 0) ≡ xc + ca * 2 ^ 29 + ov * 2 ^ 30 = ap (λ v. xc + ca * 2 ^ 29 - (xc + ca * 2 ^ 29) / 2 ^ 30 % 2 * 2 ^ 30 + v * 2 ^ 30) eo ∙ omega (arith, lx, lc) in
    let three : with_bit (xc + ca * 2 ^ 29 + ov * 2 ^ 30) 31 (bit_of so 0) ≡ so * 2 ^ 31 + ov * 2 ^ 30 + ca * 2 ^ 29 + xc =
    ap (λ v. xc + ca * 2 ^ 29 + ov * 2 ^ 30 - (xc + ca * 2 ^ 29 + ov * 2 ^ 30) / 2 ^ 31 % 2 * 2 ^ 31 + v * 2 ^ 31) es ∙ omega (arith, lx, lc, lo) in
    ap (λ v. with_bit (with_bit v 30 (bit_of ov 0)) 31 (bit_of so 0)) one ∙ ap (λ v. with_bit v 31 (bit_of so 0)) two ∙ three

-- the parts of XER
pub record XerParts (so ov ca xc : ℕ) : Type 0 where
  pub so_is : (so * 2 ^ 31 + ov * 2 ^ 30 + ca * 2 ^ 29 + xc) / 2 ^ 31 % 2 ^ 1 ≡ so
  pub ov_is : (so * 2 ^ 31 + ov * 2 ^ 30 + ca * 2 ^ 29 + xc) / 2 ^ 30 % 2 ^ 1 ≡ ov
  pub ca_is : (so * 2 ^ 31 + ov * 2 ^ 30 + ca * 2 ^ 29 + xc) / 2 ^ 29 % 2 ^ 1 ≡ ca
  pub xc_is : (so * 2 ^ 31 + ov * 2 ^ 30 + ca * 2 ^ 29 + xc) / 2 ^ 0 % 2 ^ 7 ≡ xc

pub xer_parts : (so ov ca xc : ℕ) → so < 2 → ov < 2 → ca < 2 → xc < 128 → XerParts so ov ca xc
xer_parts so ov ca xc ls lo lc lx = record {
  so_is = omega (arith, ls, lo, lc, lx);
  ov_is = omega (arith, ls, lo, lc, lx);
  ca_is = omega (arith, ls, lo, lc, lx);
  xc_is = omega (arith, ls, lo, lc, lx);
}

-- the eight fields of CR
pub record CrParts (a b c d e f g h : ℕ) : Type 0 where
  pub at0 : (a * 2 ^ 28 + b * 2 ^ 24 + c * 2 ^ 20 + d * 2 ^ 16 + e * 2 ^ 12 + f * 2 ^ 8 + g * 2 ^ 4 + h) / 2 ^ 28 % 2 ^ 4 ≡ a
  pub at1 : (a * 2 ^ 28 + b * 2 ^ 24 + c * 2 ^ 20 + d * 2 ^ 16 + e * 2 ^ 12 + f * 2 ^ 8 + g * 2 ^ 4 + h) / 2 ^ 24 % 2 ^ 4 ≡ b
  pub at2 : (a * 2 ^ 28 + b * 2 ^ 24 + c * 2 ^ 20 + d * 2 ^ 16 + e * 2 ^ 12 + f * 2 ^ 8 + g * 2 ^ 4 + h) / 2 ^ 20 % 2 ^ 4 ≡ c
  pub at3 : (a * 2 ^ 28 + b * 2 ^ 24 + c * 2 ^ 20 + d * 2 ^ 16 + e * 2 ^ 12 + f * 2 ^ 8 + g * 2 ^ 4 + h) / 2 ^ 16 % 2 ^ 4 ≡ d
  pub at4 : (a * 2 ^ 28 + b * 2 ^ 24 + c * 2 ^ 20 + d * 2 ^ 16 + e * 2 ^ 12 + f * 2 ^ 8 + g * 2 ^ 4 + h) / 2 ^ 12 % 2 ^ 4 ≡ e
  pub at5 : (a * 2 ^ 28 + b * 2 ^ 24 + c * 2 ^ 20 + d * 2 ^ 16 + e * 2 ^ 12 + f * 2 ^ 8 + g * 2 ^ 4 + h) / 2 ^ 8 % 2 ^ 4 ≡ f
  pub at6 : (a * 2 ^ 28 + b * 2 ^ 24 + c * 2 ^ 20 + d * 2 ^ 16 + e * 2 ^ 12 + f * 2 ^ 8 + g * 2 ^ 4 + h) / 2 ^ 4 % 2 ^ 4 ≡ g
  pub at7 : (a * 2 ^ 28 + b * 2 ^ 24 + c * 2 ^ 20 + d * 2 ^ 16 + e * 2 ^ 12 + f * 2 ^ 8 + g * 2 ^ 4 + h) / 2 ^ 0 % 2 ^ 4 ≡ h

pub cr_parts : (a b c d e f g h : ℕ) → a < 16 → b < 16 → c < 16 → d < 16 → e < 16 → f < 16 → g < 16 → h < 16 → CrParts a b c d e f g h
cr_parts a b c d e f g h la lb lc ld le lf lg lh = record {
  at0 = omega (arith, la, lb, lc, ld, le, lf, lg, lh);
  at1 = omega (arith, la, lb, lc, ld, le, lf, lg, lh);
  at2 = omega (arith, la, lb, lc, ld, le, lf, lg, lh);
  at3 = omega (arith, la, lb, lc, ld, le, lf, lg, lh);
  at4 = omega (arith, la, lb, lc, ld, le, lf, lg, lh);
  at5 = omega (arith, la, lb, lc, ld, le, lf, lg, lh);
  at6 = omega (arith, la, lb, lc, ld, le, lf, lg, lh);
  at7 = omega (arith, la, lb, lc, ld, le, lf, lg, lh);
}

-- CR is a word
pub cr_small : (locs : ℕ → ℕ) → ((x : ℕ) → 34 ≤ x → x < 42 → locs x < 16) → cr_word locs < 2 ^ 32
cr_small locs small =
    let a = small 34 (omega arith) (omega arith) in
    let b = small 35 (omega arith) (omega arith) in
    let c = small 36 (omega arith) (omega arith) in
    let d = small 37 (omega arith) (omega arith) in
    let e = small 38 (omega arith) (omega arith) in
    let f = small 39 (omega arith) (omega arith) in
    let g = small 40 (omega arith) (omega arith) in
    let h = small 41 (omega arith) (omega arith) in
    omega (arith, a, b, c, d, e, f, g, h)
