-- Tiles of moves of CR and of the special registers, and of sync and isync.
use Rattle.std.proofs.Common.{◌≡◌, ℕ, ◌+◌, ◌-◌, ◌*◌, ◌/◌, ◌%◌, ◌^◌, ◌<◌, ◌≤◌, inl, inr, Bool, false, eqb, [], bit_and, bit_or, refl, sym, ap, ◌∙◌, subst, arith}
use Rattle.std.proofs.lemmas.Nat.{or_shifted, and_shr, and_mod, and_mask}
use Rattle.std.proofs.lemmas.Bool.Decides.{nat_tests}
use Rattle.machines.specs.Prelude.{bit_of, word_and, MoveCrField, MoveFromCr, MoveFromSpr, MoveToSpr, Sync, Isync, IsLegal, IsSpr, with_field, update, Guest, at_next, put_cr, put_xer, cr_word, xer_word}
use Rattle.word_kit.proofs.BitSums.{word_and-is}
use Rattle.reg_map.specs.Prelude.{location_range, AreInRange}
use Rattle.symbolic_tiles.specs.Prelude.{IsTileOf}
use Rattle.base_alu.specs.Conditions.{mcrf_ops, mfcr_ops}
use Rattle.base_alu.specs.Specials.{mfspr_ops, mfxer_ops, mtspr_ops, mtxer_ops}
use Rattle.row_laws.proofs.Digits.{bit_in_digit}
use Rattle.row_laws.proofs.Fields.{InRange, field_of_word, four_bits}
use Rattle.symbolic_tiles.proofs.TileOf.{ops_are_tile}
use Rattle.symbolic_tiles.proofs.Written.{field_put, fields_put_cr, fields_put_xer, fields_put_word}
use Rattle.symbolic_tiles.proofs.Results.{goes_same, plain, results_do}
use Rattle.symbolic_tiles.proofs.Small.{each_same}
use Rattle.symbolic_tiles.proofs.Registers.{word, gpr}

pub sync_does : IsTileOf Sync []
sync_does = ops_are_tile Sync [] (record { fit = (omega arith, (omega arith, (omega arith, (omega arith, (omega arith, (omega arith, tt)))))); allowed = tt }) tt (omega arith)
    (λ guest g g' range leads. let e = goes_same (at_next g.locs g) g' leads in subst (λ h. (z : ℕ) → 34 ≤ z → z < 46 → h.locs z < location_range z) e (λ z lz uz. range z uz))
    (λ guest host g g' regs flags choices given words leads. let e = goes_same (at_next g.locs g) g' leads in (λ x lx. ap (λ k. k.locs x) e, λ a held. ap (λ k. k.bytes a) e))

pub isync_does : IsTileOf Isync []
isync_does = ops_are_tile Isync [] (record { fit = (omega arith, (omega arith, (omega arith, (omega arith, (omega arith, (omega arith, tt)))))); allowed = tt }) tt (omega arith)
    (λ guest g g' range leads. let e = goes_same (at_next g.locs g) g' leads in subst (λ h. (z : ℕ) → 34 ≤ z → z < 46 → h.locs z < location_range z) e (λ z lz uz. range z uz))
    (λ guest host g g' regs flags choices given words leads. let e = goes_same (at_next g.locs g) g' leads in (λ x lx. ap (λ k. k.locs x) e, λ a held. ap (λ k. k.bytes a) e))

-- a field's value and its bits
field_small : (g : Guest) → AreInRange g → (f : ℕ) → f < 8 → g.locs (34 + f) < 16
field_small g range f h = let r = range (34 + f) (omega arith) in grind (arith, nat_tests)

field_bit : (p : ℕ → ℕ) (f j : ℕ) → InRange p → f < 8 → j < 4 → bit_of (cr_word p) (31 - (4 * f + j)) ≡ eqb (p (34 + f) / 2 ^ (3 - j) % 2) 1
field_bit p f j fits hf hj =
    let e : 31 - (4 * f + j) ≡ 4 * (7 - f) + (3 - j) = omega arith in
    ap (λ k. bit_of (cr_word p) k) e ∙ ap (λ k. eqb k 1) (bit_in_digit (cr_word p) (7 - f) (3 - j) (omega arith)) ∙ ap (λ k. eqb (k / 2 ^ (3 - j) % 2) 1) (field_of_word p fits f hf)

four_is : (x : ℕ) → x < 16 → four_bits (eqb (x / 2 ^ 3 % 2) 1) (eqb (x / 2 ^ 2 % 2) 1) (eqb (x / 2 ^ 1 % 2) 1) (eqb (x / 2 ^ 0 % 2) 1) ≡ x
four_is x h = each_same (λ x. four_bits (eqb (x / 2 ^ 3 % 2) 1) (eqb (x / 2 ^ 2 % 2) 1) (eqb (x / 2 ^ 1 % 2) 1) (eqb (x / 2 ^ 0 % 2) 1)) (λ x. x) 16 x refl h

pub mcrf_does : (to from : ℕ) → IsLegal (MoveCrField to from) → IsTileOf (MoveCrField to from) (mcrf_ops to from)
mcrf_does to from legal =
    ops_are_tile (MoveCrField to from) (mcrf_ops to from) legal ((tt, (omega arith, omega arith)), (((omega arith, omega arith), tt), tt)) (omega arith)
    (λ guest g g' range leads. subst (λ h. (z : ℕ) → 34 ≤ z → z < 46 → h.locs z < location_range z) (goes_same (after g) g' leads) (fields_put_cr _ g.locs (λ z lz uz. range z uz)))
    (λ guest host g g' regs flags choices given words leads.
    let e = goes_same (after g) g' leads in
    let range = given.in_range in
    let small = field_small g range from lf in
    let b0 : bit_of (cr_word g.locs) (31 - 4 * from) ≡ eqb (g.locs (34 + from) / 2 ^ 3 % 2) 1 = ap (λ k. bit_of (cr_word g.locs) (31 - k)) (omega arith) ∙ field_bit g.locs from 0 range lf (omega arith) in
    let b1 = field_bit g.locs from 1 range lf (omega arith) in
    let b2 = field_bit g.locs from 2 range lf (omega arith) in
    let b3 = field_bit g.locs from 3 range lf (omega arith) in
    let v : g.locs (34 + from) % 256 % 256 ≡ four_bits (bit_of (cr_word g.locs) (31 - 4 * from)) (bit_of (cr_word g.locs) (31 - (4 * from + 1))) (bit_of (cr_word g.locs) (31 - (4 * from + 2))) (bit_of (cr_word g.locs) (31 - (4 * from + 3))) =
    let q : g.locs (34 + from) % 256 % 256 ≡ g.locs (34 + from) = omega (arith, small) in
    q ∙ sym (four_is (g.locs (34 + from)) small)
    ∙ sym (ap (λ (b : Bool). four_bits b (bit_of (cr_word g.locs) (31 - (4 * from + 1))) (bit_of (cr_word g.locs) (31 - (4 * from + 2))) (bit_of (cr_word g.locs) (31 - (4 * from + 3)))) b0
    ∙ ap (λ (b : Bool). four_bits (eqb (g.locs (34 + from) / 2 ^ 3 % 2) 1) b (bit_of (cr_word g.locs) (31 - (4 * from + 2))) (bit_of (cr_word g.locs) (31 - (4 * from + 3)))) b1
    ∙ ap (λ (b : Bool). four_bits (eqb (g.locs (34 + from) / 2 ^ 3 % 2) 1) (eqb (g.locs (34 + from) / 2 ^ 2 % 2) 1) b (bit_of (cr_word g.locs) (31 - (4 * from + 3)))) b2
    ∙ ap (λ (b : Bool). four_bits (eqb (g.locs (34 + from) / 2 ^ 3 % 2) 1) (eqb (g.locs (34 + from) / 2 ^ 2 % 2) 1) (eqb (g.locs (34 + from) / 2 ^ 1 % 2) 1) b) b3) in
    (λ x lx. ap (λ k. update g.locs (34 + to) k x) v ∙ sym (field_put to (bit_of (cr_word g.locs) (31 - 4 * from)) (bit_of (cr_word g.locs) (31 - (4 * from + 1))) (bit_of (cr_word g.locs) (31 - (4 * from + 2))) (bit_of (cr_word g.locs) (31 - (4 * from + 3))) g.locs g.locs lt range (λ y ly uy. refl) x) ∙ ap (λ k. k.locs x) e, λ a held. ap (λ k. k.bytes a) e))
  where
    lt : to < 8
    lt = legal.fit.1.0

    lf : from < 8
    lf = legal.fit.1.1.1.0

    after : Guest → Guest
    after g = at_next (put_cr (with_field (cr_word g.locs) to (bit_of (cr_word g.locs) (31 - 4 * from)) (bit_of (cr_word g.locs) (31 - (4 * from + 1))) (bit_of (cr_word g.locs) (31 - (4 * from + 2))) (bit_of (cr_word g.locs) (31 - (4 * from + 3)))) g.locs) g

-- one field behind those that are there
next_is : (v f : ℕ) → v < 2 ^ 28 → f < 16 → bit_or (v * 2 ^ (4 % 32 % 32) % 2 ^ 32) (f % 256) ≡ v * 16 + f
next_is v f hv hf =
    let a : v * 2 ^ (4 % 32 % 32) % 2 ^ 32 ≡ v * 2 ^ 4 = omega arith in
    let b : f % 256 ≡ f = omega arith in
    ap (λ k. bit_or k (f % 256)) a ∙ ap (bit_or (v * 2 ^ 4)) b ∙ or_shifted v 4 f hf

all_fields : (a b c d e f g h : ℕ) → a < 16 → b < 16 → c < 16 → d < 16 → e < 16 → f < 16 → g < 16 → h < 16 →
    bit_or (bit_or (bit_or (bit_or (bit_or (bit_or (bit_or (a % 256 * 2 ^ (4 % 32 % 32) % 2 ^ 32) (b % 256) * 2 ^ (4 % 32 % 32) % 2 ^ 32) (c % 256) * 2 ^ (4 % 32 % 32) % 2 ^ 32) (d % 256) * 2 ^ (4 % 32 % 32) % 2 ^ 32) (e % 256) * 2 ^ (4 % 32 % 32) % 2 ^ 32) (f % 256) * 2 ^ (4 % 32 % 32) % 2 ^ 32) (g % 256) * 2 ^ (4 % 32 % 32) % 2 ^ 32) (h % 256)
    ≡ a * 2 ^ 28 + b * 2 ^ 24 + c * 2 ^ 20 + d * 2 ^ 16 + e * 2 ^ 12 + f * 2 ^ 8 + g * 2 ^ 4 + h
all_fields a b c d e f g h la lb lc ld le lf lg lh =
    let v0 : a % 256 ≡ a = omega arith in
    let step = λ (v w k : ℕ) (e : v ≡ w) (hw : w < 2 ^ 28) (hk : k < 16). ap (λ z. bit_or (z * 2 ^ (4 % 32 % 32) % 2 ^ 32) (k % 256)) e ∙ next_is w k hw hk in
    let v1 = step (a % 256) a b v0 (omega arith) lb in
    let v2 = step _ (a * 16 + b) c v1 (omega arith) lc in
    let v3 = step _ ((a * 16 + b) * 16 + c) d v2 (omega arith) ld in
    let v4 = step _ (((a * 16 + b) * 16 + c) * 16 + d) e v3 (omega arith) le in
    let v5 = step _ ((((a * 16 + b) * 16 + c) * 16 + d) * 16 + e) f v4 (omega arith) lf in
    let v6 = step _ (((((a * 16 + b) * 16 + c) * 16 + d) * 16 + e) * 16 + f) g v5 (omega arith) lg in
    let v7 = step _ ((((((a * 16 + b) * 16 + c) * 16 + d) * 16 + e) * 16 + f) * 16 + g) h v6 (omega arith) lh in
    v7 ∙ omega arith

pub mfcr_does : (d : ℕ) → IsLegal (MoveFromCr d) → IsTileOf (MoveFromCr d) (mfcr_ops d)
mfcr_does d legal =
    results_do (MoveFromCr d) d false false (λ g. cr_word g.locs) (λ g. false) ld (mfcr_ops d) legal
    ((tt, (omega arith, omega arith)), ((tt, omega arith), ((tt, (omega arith, omega arith)), ((tt, tt), ((tt, omega arith), ((tt, (omega arith, omega arith)), ((tt, tt), ((tt, omega arith), ((tt, (omega arith, omega arith)), ((tt, tt), ((tt, omega arith), ((tt, (omega arith, omega arith)), ((tt, tt), ((tt, omega arith), ((tt, (omega arith, omega arith)), ((tt, tt), ((tt, omega arith), ((tt, (omega arith, omega arith)), ((tt, tt), ((tt, omega arith), ((tt, (omega arith, omega arith)), ((tt, tt), ((word d ld, tt), tt)))))))))))))))))))))))
    (omega arith) (λ guest g. refl) (λ g. record { cr = λ q. absurd cc; xer = λ q. absurd cc })
    (λ guest host g regs flags choices range words.
    let f0 = field_small g range 0 (omega arith) in
    let f1 = field_small g range 1 (omega arith) in
    let f2 = field_small g range 2 (omega arith) in
    let f3 = field_small g range 3 (omega arith) in
    let f4 = field_small g range 4 (omega arith) in
    let f5 = field_small g range 5 (omega arith) in
    let f6 = field_small g range 6 (omega arith) in
    let f7 = field_small g range 7 (omega arith) in
    let w = all_fields (g.locs 34) (g.locs 35) (g.locs 36) (g.locs 37) (g.locs 38) (g.locs 39) (g.locs 40) (g.locs 41) f0 f1 f2 f3 f4 f5 f6 f7 in
    plain g.locs g.bytes d w (subst (λ k. k < 2 ^ 32) (sym w) (omega (arith, f0, f1, f2, f3, f4, f5, f6, f7))))
  where
    ld : d < 32
    ld = legal.fit.1.0

-- the parts of XER
part_small : (g : Guest) → AreInRange g → (g.locs 42 < 2) × (g.locs 43 < 2) × (g.locs 44 < 2) × (g.locs 45 < 128)
part_small g range = (range 42 (omega arith), range 43 (omega arith), range 44 (omega arith), range 45 (omega arith))

xer_is : (so ov ca xc : ℕ) → so < 2 → ov < 2 → ca < 2 → xc < 128 →
    bit_or (bit_or (bit_or (so % 256 * 2 ^ (1 % 32 % 32) % 2 ^ 32) (ov % 256) * 2 ^ (1 % 32 % 32) % 2 ^ 32) (ca % 256) * 2 ^ (29 % 32 % 32) % 2 ^ 32) (xc % 256) ≡ so * 2 ^ 31 + ov * 2 ^ 30 + ca * 2 ^ 29 + xc
xer_is so ov ca xc ls lo lc lx =
    let a : so % 256 * 2 ^ (1 % 32 % 32) % 2 ^ 32 ≡ so * 2 ^ 1 = omega arith in
    let b : ov % 256 ≡ ov = omega arith in
    let c : ca % 256 ≡ ca = omega arith in
    let d : xc % 256 ≡ xc = omega arith in
    let p : bit_or (so % 256 * 2 ^ (1 % 32 % 32) % 2 ^ 32) (ov % 256) ≡ so * 2 + ov = ap (λ k. bit_or k (ov % 256)) a ∙ ap (bit_or (so * 2 ^ 1)) b ∙ or_shifted so 1 ov lo in
    let e : (so * 2 + ov) * 2 ^ (1 % 32 % 32) % 2 ^ 32 ≡ (so * 2 + ov) * 2 ^ 1 = omega arith in
    let q : bit_or ((so * 2 + ov) * 2 ^ (1 % 32 % 32) % 2 ^ 32) (ca % 256) ≡ (so * 2 + ov) * 2 + ca = ap (λ k. bit_or k (ca % 256)) e ∙ ap (bit_or ((so * 2 + ov) * 2 ^ 1)) c ∙ or_shifted (so * 2 + ov) 1 ca lc in
    let f : ((so * 2 + ov) * 2 + ca) * 2 ^ (29 % 32 % 32) % 2 ^ 32 ≡ ((so * 2 + ov) * 2 + ca) * 2 ^ 29 = omega arith in
    let r : bit_or (((so * 2 + ov) * 2 + ca) * 2 ^ (29 % 32 % 32) % 2 ^ 32) (xc % 256) ≡ ((so * 2 + ov) * 2 + ca) * 2 ^ 29 + xc = ap (λ k. bit_or k (xc % 256)) f ∙ ap (bit_or (((so * 2 + ov) * 2 + ca) * 2 ^ 29)) d ∙ or_shifted ((so * 2 + ov) * 2 + ca) 29 xc (omega arith) in
    ap (λ k. bit_or (bit_or (k * 2 ^ (1 % 32 % 32) % 2 ^ 32) (ca % 256) * 2 ^ (29 % 32 % 32) % 2 ^ 32) (xc % 256)) p ∙ ap (λ k. bit_or (k * 2 ^ (29 % 32 % 32) % 2 ^ 32) (xc % 256)) q ∙ r ∙ omega arith

wide : (g : Guest) (x : ℕ) → AreInRange g → x < 34 → g.locs x < 2 ^ 32
wide g x range h = let r = range x (omega arith) in grind (arith, nat_tests)

pub mfspr_does : (d spr : ℕ) → IsLegal (MoveFromSpr d spr) → IsTileOf (MoveFromSpr d spr) (mfspr_ops d spr)
mfspr_does d spr legal = by_spr spr legal.allowed legal
  where
    by_spr : (spr : ℕ) → IsSpr spr → IsLegal (MoveFromSpr d spr) → IsTileOf (MoveFromSpr d spr) (mfspr_ops d spr)
    by_spr spr (inl e) = let P : ℕ → Type 0 = λ n. IsLegal (MoveFromSpr d n) → IsTileOf (MoveFromSpr d n) (mfspr_ops d n) in subst P (sym e) (λ legal.
        results_do (MoveFromSpr d 1) d false false (λ g. xer_word g.locs) (λ g. false) (legal.fit.1.0) (mfxer_ops d) legal
        ((tt, (omega arith, omega arith)), ((tt, omega arith), ((tt, (omega arith, omega arith)), ((tt, tt), ((tt, omega arith), ((tt, (omega arith, omega arith)), ((tt, tt), ((tt, omega arith), ((tt, (omega arith, omega arith)), ((tt, tt), ((word d (legal.fit.1.0), tt), tt)))))))))))
        (omega arith) (λ guest g. refl) (λ g. record { cr = λ q. absurd cc; xer = λ q. absurd cc })
        (λ guest host g regs flags choices range words.
        let s = part_small g range in
        let w = xer_is (g.locs 43) (g.locs 44) (g.locs 42) (g.locs 45) s.1 s.2 s.0 s.3 in
        plain g.locs g.bytes d w (subst (λ k. k < 2 ^ 32) (sym w) (omega (arith, s.0, s.1, s.2, s.3)))))
    by_spr spr (inr (inl e)) = let P : ℕ → Type 0 = λ n. IsLegal (MoveFromSpr d n) → IsTileOf (MoveFromSpr d n) (mfspr_ops d n) in subst P (sym e) (λ legal.
        results_do (MoveFromSpr d 8) d false false (λ g. g.locs 32) (λ g. false) (legal.fit.1.0) (mfspr_ops d 8) legal
        ((tt, omega arith), ((word d (legal.fit.1.0), tt), tt)) (omega arith) (λ guest g. refl) (λ g. record { cr = λ q. absurd cc; xer = λ q. absurd cc })
        (λ guest host g regs flags choices range words. plain g.locs g.bytes d refl (wide g 32 range (omega arith))))
    by_spr spr (inr (inr e)) = let P : ℕ → Type 0 = λ n. IsLegal (MoveFromSpr d n) → IsTileOf (MoveFromSpr d n) (mfspr_ops d n) in subst P (sym e) (λ legal.
        results_do (MoveFromSpr d 9) d false false (λ g. g.locs 33) (λ g. false) (legal.fit.1.0) (mfspr_ops d 9) legal
        ((tt, omega arith), ((word d (legal.fit.1.0), tt), tt)) (omega arith) (λ guest g. refl) (λ g. record { cr = λ q. absurd cc; xer = λ q. absurd cc })
        (λ guest host g regs flags choices range words. plain g.locs g.bytes d refl (wide g 33 range (omega arith))))

-- the bits of XER that there are
xer_bits : (S : ℕ) → S < 2 ^ 32 → (S / 2 ^ (31 % 32 % 32) % 256 ≡ word_and S 0xE000007F / 2 ^ 31 % 2) × (bit_and (S / 2 ^ (30 % 32 % 32)) 1 % 256 ≡ word_and S 0xE000007F / 2 ^ 30 % 2) × (bit_and (S / 2 ^ (29 % 32 % 32)) 1 % 256 ≡ word_and S 0xE000007F / 2 ^ 29 % 2) × (bit_and S 127 % 256 ≡ word_and S 0xE000007F % 2 ^ 7)
xer_bits S h =
    let w = word_and-is S 0xE000007F h (omega arith) in
    let a : word_and S 0xE000007F / 2 ^ 31 ≡ S / 2 ^ 31 % 2 = ap (λ k. k / 2 ^ 31) w ∙ and_shr S 0xE000007F 31 ∙ and_mask (S / 2 ^ 31) 1 in
    let b : word_and S 0xE000007F / 2 ^ 30 ≡ S / 2 ^ 30 % 4 = ap (λ k. k / 2 ^ 30) w ∙ and_shr S 0xE000007F 30 ∙ and_mask (S / 2 ^ 30) 2 in
    let c : word_and S 0xE000007F / 2 ^ 29 ≡ S / 2 ^ 29 % 8 = ap (λ k. k / 2 ^ 29) w ∙ and_shr S 0xE000007F 29 ∙ and_mask (S / 2 ^ 29) 3 in
    let d : word_and S 0xE000007F % 2 ^ 7 ≡ S % 2 ^ 7 % 2 ^ 7 = ap (λ k. k % 2 ^ 7) w ∙ and_mod S 0xE000007F 7 ∙ and_mask (S % 2 ^ 7) 7 in
    let p : bit_and (S / 2 ^ (30 % 32 % 32)) 1 ≡ S / 2 ^ 30 % 2 = and_mask (S / 2 ^ 30) 1 in
    let q : bit_and (S / 2 ^ (29 % 32 % 32)) 1 ≡ S / 2 ^ 29 % 2 = and_mask (S / 2 ^ 29) 1 in
    let r : bit_and S 127 ≡ S % 2 ^ 7 = and_mask S 7 in
    (omega (arith, a, h), omega (arith, b, p), omega (arith, c, q), omega (arith, d, r))

pub mtspr_does : (s spr : ℕ) → IsLegal (MoveToSpr s spr) → IsTileOf (MoveToSpr s spr) (mtspr_ops s spr)
mtspr_does s spr legal = by_spr spr legal.allowed legal
  where
    to_word : (k : ℕ) → k < 34 → (g : Guest) → Guest
    to_word k h g = at_next (update g.locs k (g.locs s)) g

    to_xer : Guest → Guest
    to_xer g = at_next (put_xer (word_and (g.locs s) 0xE000007F) g.locs) g

    by_spr : (spr : ℕ) → IsSpr spr → IsLegal (MoveToSpr s spr) → IsTileOf (MoveToSpr s spr) (mtspr_ops s spr)
    by_spr spr (inl e) = let P : ℕ → Type 0 = λ n. IsLegal (MoveToSpr s n) → IsTileOf (MoveToSpr s n) (mtspr_ops s n) in subst P (sym e) (λ legal.
        let ls : s < 32 = legal.fit.1.0 in
        ops_are_tile (MoveToSpr s 1) (mtxer_ops s) legal ((tt, word s ls), ((tt, tt), ((tt, omega arith), (((omega arith, omega arith), tt), ((tt, tt), ((tt, omega arith), ((tt, omega arith), (((omega arith, omega arith), tt), ((tt, tt), ((tt, omega arith), ((tt, omega arith), (((omega arith, omega arith), tt), ((tt, omega arith), (((omega arith, omega arith), tt), tt)))))))))))))) (omega arith)
        (λ guest g g' range leads. subst (λ h. (z : ℕ) → 34 ≤ z → z < 46 → h.locs z < location_range z) (goes_same (to_xer g) g' leads) (fields_put_xer _ g.locs (λ z lz uz. range z uz)))
        (λ guest host g g' regs flags choices given words leads.
        let e = goes_same (to_xer g) g' leads in
        let b = xer_bits (g.locs s) (gpr g s given.in_range ls) in
        let b0 = b.0 in let b1 = b.1 in let b2 = b.2 in let b3 = b.3 in
        (λ x lx. rw (b0, b1, b2, b3) refl ∙ ap (λ k. k.locs x) e, λ a held. ap (λ k. k.bytes a) e)))
    by_spr spr (inr (inl e)) = let P : ℕ → Type 0 = λ n. IsLegal (MoveToSpr s n) → IsTileOf (MoveToSpr s n) (mtspr_ops s n) in subst P (sym e) (λ legal.
        ops_are_tile (MoveToSpr s 8) (mtspr_ops s 8) legal ((tt, word s (legal.fit.1.0)), ((omega arith, tt), tt)) (omega arith)
        (λ guest g g' range leads. subst (λ h. (z : ℕ) → 34 ≤ z → z < 46 → h.locs z < location_range z) (goes_same (to_word 32 (omega arith) g) g' leads) (fields_put_word 32 (g.locs s) g.locs (omega arith) (λ z lz uz. range z uz)))
        (λ guest host g g' regs flags choices given words leads. let e = goes_same (to_word 32 (omega arith) g) g' leads in (λ x lx. ap (λ k. k.locs x) e, λ a held. ap (λ k. k.bytes a) e)))
    by_spr spr (inr (inr e)) = let P : ℕ → Type 0 = λ n. IsLegal (MoveToSpr s n) → IsTileOf (MoveToSpr s n) (mtspr_ops s n) in subst P (sym e) (λ legal.
        ops_are_tile (MoveToSpr s 9) (mtspr_ops s 9) legal ((tt, word s (legal.fit.1.0)), ((omega arith, tt), tt)) (omega arith)
        (λ guest g g' range leads. subst (λ h. (z : ℕ) → 34 ≤ z → z < 46 → h.locs z < location_range z) (goes_same (to_word 33 (omega arith) g) g' leads) (fields_put_word 33 (g.locs s) g.locs (omega arith) (λ z lz uz. range z uz)))
        (λ guest host g g' regs flags choices given words leads. let e = goes_same (to_word 33 (omega arith) g) g' leads in (λ x lx. ap (λ k. k.locs x) e, λ a held. ap (λ k. k.bytes a) e)))
