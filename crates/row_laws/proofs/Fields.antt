-- CR and XER as words, by their parts.
use Rattle.std.proofs.Common.{◌≡◌, ◌≢◌, ℕ, zero, suc, ◌+◌, ◌-◌, ◌*◌, ◌/◌, ◌%◌, ◌^◌, ◌<◌, ◌≤◌, ◌⊎◌, Bool, true, false, cond, eqb, refl, ap, ◌∙◌, inl, inr, arith}
use Rattle.std.proofs.lemmas.Bool.{eqb-true}
use Rattle.std.proofs.lemmas.Bool.Decides.{nat_tests}
use Rattle.machines.specs.Prelude.{one_if, with_bit, with_ca, with_field, cr_word, xer_word, put_cr, put_xer}
use Rattle.reg_map.specs.Prelude.{location_count, location_range}
use Rattle.row_laws.proofs.Digits.{digit, with_bit_other, with_bit_own}

-- each location has a value that it can have
abbrev pub InRange : (ℕ → ℕ) → Type 0
InRange locs = (x : ℕ) → x < location_count → locs x < location_range x

each_field : (P : ℕ → Type 0) → P 0 → P 1 → P 2 → P 3 → P 4 → P 5 → P 6 → P 7 → (f : ℕ) → f < 8 → P f
each_field P a b c d e f g i zero h = a
each_field P a b c d e f g i (suc zero) h = b
each_field P a b c d e f g i (suc (suc zero)) h = c
each_field P a b c d e f g i (suc (suc (suc zero))) h = d
each_field P a b c d e f g i (suc (suc (suc (suc zero)))) h = e
each_field P a b c d e f g i (suc (suc (suc (suc (suc zero))))) h = f
each_field P a b c d e f g i (suc (suc (suc (suc (suc (suc zero)))))) h = g
each_field P a b c d e f g i (suc (suc (suc (suc (suc (suc (suc zero))))))) h = i
each_field P a b c d e f g i (suc (suc (suc (suc (suc (suc (suc (suc n)))))))) h = absurd (omega (arith, h))

-- field f of CR is the location 34 + f
pub field_of_word : (locs : ℕ → ℕ) → InRange locs → (f : ℕ) → f < 8 → digit (7 - f) (cr_word locs) ≡ locs (34 + f)
field_of_word locs fits =
    let a : locs 34 < 16 = fits 34 (omega arith) in
    let b : locs 35 < 16 = fits 35 (omega arith) in
    let c : locs 36 < 16 = fits 36 (omega arith) in
    let d : locs 37 < 16 = fits 37 (omega arith) in
    let e : locs 38 < 16 = fits 38 (omega arith) in
    let f : locs 39 < 16 = fits 39 (omega arith) in
    let g : locs 40 < 16 = fits 40 (omega arith) in
    let h : locs 41 < 16 = fits 41 (omega arith) in
    each_field (λ f. digit (7 - f) (cr_word locs) ≡ locs (34 + f)) (omega arith) (omega arith) (omega arith) (omega arith) (omega arith) (omega arith) (omega arith) (omega arith)

-- the parts of XER are the locations 42 to 45
pub ca_of_word : (locs : ℕ → ℕ) → InRange locs → xer_word locs / 2 ^ 29 % 2 ≡ locs 42
ca_of_word locs fits =
    let a : locs 42 < 2 = fits 42 (omega arith) in
    let b : locs 43 < 2 = fits 43 (omega arith) in
    let c : locs 44 < 2 = fits 44 (omega arith) in
    let d : locs 45 < 128 = fits 45 (omega arith) in
    omega arith

pub so_of_word : (locs : ℕ → ℕ) → InRange locs → xer_word locs / 2 ^ 31 % 2 ≡ locs 43
so_of_word locs fits =
    let a : locs 42 < 2 = fits 42 (omega arith) in
    let b : locs 43 < 2 = fits 43 (omega arith) in
    let c : locs 44 < 2 = fits 44 (omega arith) in
    let d : locs 45 < 128 = fits 45 (omega arith) in
    omega arith

pub ov_of_word : (locs : ℕ → ℕ) → InRange locs → xer_word locs / 2 ^ 30 % 2 ≡ locs 44
ov_of_word locs fits =
    let a : locs 42 < 2 = fits 42 (omega arith) in
    let b : locs 43 < 2 = fits 43 (omega arith) in
    let c : locs 44 < 2 = fits 44 (omega arith) in
    let d : locs 45 < 128 = fits 45 (omega arith) in
    omega arith

pub xc_of_word : (locs : ℕ → ℕ) → InRange locs → xer_word locs % 2 ^ 7 ≡ locs 45
xc_of_word locs fits =
    let a : locs 42 < 2 = fits 42 (omega arith) in
    let b : locs 43 < 2 = fits 43 (omega arith) in
    let c : locs 44 < 2 = fits 44 (omega arith) in
    let d : locs 45 < 128 = fits 45 (omega arith) in
    omega arith

-- XER with CA replaced
pub ca_put : (xer : ℕ) (b : Bool) → with_ca xer b / 2 ^ 29 % 2 ≡ one_if b
ca_put xer true = omega arith
ca_put xer false = omega arith

pub so_with_ca : (xer : ℕ) (b : Bool) → with_ca xer b / 2 ^ 31 % 2 ≡ xer / 2 ^ 31 % 2
so_with_ca xer true = omega arith
so_with_ca xer false = omega arith

pub ov_with_ca : (xer : ℕ) (b : Bool) → with_ca xer b / 2 ^ 30 % 2 ≡ xer / 2 ^ 30 % 2
ov_with_ca xer true = omega arith
ov_with_ca xer false = omega arith

pub xc_with_ca : (xer : ℕ) (b : Bool) → with_ca xer b % 2 ^ 7 ≡ xer % 2 ^ 7
xc_with_ca xer true = omega arith
xc_with_ca xer false = omega arith

-- a field of CR replaced
pub with_field_other : (cr f k : ℕ) (lt gt eq so : Bool) → f < 8 → k ≢ 7 - f → digit k (with_field cr f lt gt eq so) ≡ digit k cr
with_field_other cr f k lt gt eq so h ne =
    bit 0 so (with_bit (with_bit (with_bit cr (31 - 4 * f) lt) (31 - (4 * f + 1)) gt) (31 - (4 * f + 2)) eq) (omega arith) (omega arith)
    ∙ bit 1 eq (with_bit (with_bit cr (31 - 4 * f) lt) (31 - (4 * f + 1)) gt) (omega arith) (omega arith)
    ∙ bit 2 gt (with_bit cr (31 - 4 * f) lt) (omega arith) (omega arith)
    ∙ bit 3 lt cr (omega arith) (omega arith)
  where
    bit : (j : ℕ) (b : Bool) (x : ℕ) {p : ℕ} → p ≡ 4 * (7 - f) + j → j < 4 → digit k (with_bit x p b) ≡ digit k x
    bit j b x {p} e lt = ap (λ n. digit k (with_bit x n b)) e ∙ with_bit_other x k (7 - f) j b lt ne

-- the four bits of a field
abbrev pub four_bits : Bool → Bool → Bool → Bool → ℕ
four_bits lt gt eq so = 8 * one_if lt + 4 * one_if gt + 2 * one_if eq + one_if so

pub with_field_own : (cr f : ℕ) (lt gt eq so : Bool) → f < 8 → digit (7 - f) (with_field cr f lt gt eq so) ≡ four_bits lt gt eq so
with_field_own cr f lt gt eq so h =
    bit 0 so (with_bit (with_bit (with_bit cr (31 - 4 * f) lt) (31 - (4 * f + 1)) gt) (31 - (4 * f + 2)) eq) (omega arith) (omega arith)
    ∙ ap (λ n. with_bit n 0 so) (bit 1 eq (with_bit (with_bit cr (31 - 4 * f) lt) (31 - (4 * f + 1)) gt) (omega arith) (omega arith))
    ∙ ap (λ n. with_bit (with_bit n 1 eq) 0 so) (bit 2 gt (with_bit cr (31 - 4 * f) lt) (omega arith) (omega arith))
    ∙ ap (λ n. with_bit (with_bit (with_bit n 2 gt) 1 eq) 0 so) (bit 3 lt cr (omega arith) (omega arith))
    ∙ all lt gt eq so (digit (7 - f) cr) (omega arith)
  where
    bit : (j : ℕ) (b : Bool) (x : ℕ) {p : ℕ} → p ≡ 4 * (7 - f) + j → j < 4 → digit (7 - f) (with_bit x p b) ≡ with_bit (digit (7 - f) x) j b
    bit j b x {p} e lt = ap (λ n. digit (7 - f) (with_bit x n b)) e ∙ with_bit_own x (7 - f) j b lt

    all : (lt gt eq so : Bool) (n : ℕ) → n < 16 → with_bit (with_bit (with_bit (with_bit n 3 lt) 2 gt) 1 eq) 0 so ≡ four_bits lt gt eq so
    all lt gt eq so n h =
        let a : one_if lt < 2 = one lt in
        let b : one_if gt < 2 = one gt in
        let c : one_if eq < 2 = one eq in
        let d : one_if so < 2 = one so in
        numbers n (one_if lt) (one_if gt) (one_if eq) (one_if so) (with_bit n 3 lt) (with_bit (with_bit n 3 lt) 2 gt) (with_bit (with_bit (with_bit n 3 lt) 2 gt) 1 eq) h a b c d refl refl refl
      where
        one : (b : Bool) → one_if b < 2
        one true = omega arith
        one false = omega arith

        numbers : (n a b c d x y z : ℕ) → n < 16 → a < 2 → b < 2 → c < 2 → d < 2 →
            x ≡ n - n / 8 % 2 * 8 + a * 8 → y ≡ x - x / 4 % 2 * 4 + b * 4 → z ≡ y - y / 2 % 2 * 2 + c * 2 → z - z / 1 % 2 * 1 + d * 1 ≡ 8 * a + 4 * b + 2 * c + d
        numbers n a b c d x y z h ha hb hc hd i j k = omega arith

-- what CR has in a field
pub put_cr_at : (w f : ℕ) (l : ℕ → ℕ) → f < 8 → put_cr w l (34 + f) ≡ digit (7 - f) w
put_cr_at w f l h = each_field (λ f. put_cr w l (34 + f) ≡ digit (7 - f) w) refl refl refl refl refl refl refl refl f h

pub put_cr_off : (w x : ℕ) (l : ℕ → ℕ) → (x < 34) ⊎ (42 ≤ x) → put_cr w l x ≡ l x
put_cr_off w x l h = grind (arith, nat_tests)

-- what CR leaves in a location
pub put_cr_keeps : (w : ℕ) (l : ℕ → ℕ) (x v : ℕ) → l x ≡ v → ((f : ℕ) → f < 8 → x ≡ 34 + f → digit (7 - f) w ≡ v) → put_cr w l x ≡ v
put_cr_keeps w l x v e same = by_place (grind arith)
  where
    by_place : ((x < 34) ⊎ (42 ≤ x)) ⊎ ((34 ≤ x) × (x < 42)) → put_cr w l x ≡ v
    by_place (inl off) = put_cr_off w x l off ∙ e
    by_place (inr on) = let i : x ≡ 34 + (x - 34) = omega (arith, on.0) in ap (put_cr w l) i ∙ put_cr_at w (x - 34) l (omega (arith, on.1)) ∙ same (x - 34) (omega (arith, on.1)) i

pub put_xer_off : (w x : ℕ) (l : ℕ → ℕ) → x < 42 → put_xer w l x ≡ l x
put_xer_off w x l h = grind (arith, nat_tests)

-- what XER leaves in a location
pub put_xer_keeps : (w : ℕ) (l : ℕ → ℕ) (x v : ℕ) → l x ≡ v → (x ≡ 42 → w / 2 ^ 29 % 2 ≡ v) → (x ≡ 43 → w / 2 ^ 31 % 2 ≡ v) → (x ≡ 44 → w / 2 ^ 30 % 2 ≡ v) → (x ≡ 45 → w % 2 ^ 7 ≡ v) → put_xer w l x ≡ v
put_xer_keeps w l x v e a b c d = by_tests (eqb x 42) (eqb x 43) (eqb x 44) (eqb x 45) refl refl refl refl
  where
    by_tests : (p q r s : Bool) → eqb x 42 ≡ p → eqb x 43 ≡ q → eqb x 44 ≡ r → eqb x 45 ≡ s → cond s (w % 2 ^ 7) (cond p (w / 2 ^ 29 % 2) (cond r (w / 2 ^ 30 % 2) (cond q (w / 2 ^ 31 % 2) (l x)))) ≡ v
    by_tests p q r true hp hq hr hs = d (eqb-true x 45 hs)
    by_tests true q r false hp hq hr hs = a (eqb-true x 42 hp)
    by_tests false q true false hp hq hr hs = c (eqb-true x 44 hr)
    by_tests false true false false hp hq hr hs = b (eqb-true x 43 hq)
    by_tests false false false false hp hq hr hs = e
