-- What the rows write into CR and XER, by locations.
use Rattle.std.proofs.Common.{◌≡◌, ◌≢◌, ℕ, ◌+◌, ◌-◌, ◌/◌, ◌%◌, ◌^◌, ◌<◌, ◌≤◌, Bool, true, false, cond, ◌&&◌, eqb, ltb, leb, ◌⊎◌, inl, inr, refl, sym, ap, ◌∙◌, subst, arith}
use Rattle.std.proofs.lemmas.Bool.Decides.{nat_tests}
use Rattle.machines.specs.Prelude.{one_if, is_less, GuestValues, Effect, with_ca, with_field, update, cr_word, xer_word, put_cr, put_xer, results}
use Rattle.ppc_isa.specs.Recording.{so, ca}
use Rattle.reg_map.specs.Prelude.{location_range}
use Rattle.symbolic_tiles.proofs.Memory.{update_same, update_other}
use Rattle.row_laws.proofs.Fields.{InRange, field_of_word, ca_of_word, so_of_word, ov_of_word, xc_of_word, ca_put, so_with_ca, ov_with_ca, xc_with_ca, with_field_other, with_field_own, four_bits, put_cr_at, put_cr_keeps, put_xer_keeps, put_cr_off}
use Rattle.row_laws.proofs.Shapes.{Gives}
use Rattle.row_laws.proofs.Kept.{Stands}

is_same : (y x : ℕ) → (y ≡ x) ⊎ (y ≢ x)
is_same y x = grind arith

-- a field of CR is replaced
pub field_put : (f : ℕ) (lt gt eq so : Bool) (p l : ℕ → ℕ) → f < 8 → InRange p → ((y : ℕ) → 34 ≤ y → y < 42 → l y ≡ p y) → (x : ℕ) → put_cr (with_field (cr_word p) f lt gt eq so) l x ≡ update l (34 + f) (four_bits lt gt eq so) x
field_put f lt gt eq so p l hf fits agree x = by_same (is_same x (34 + f))
  where
    by_same : (x ≡ 34 + f) ⊎ (x ≢ 34 + f) → put_cr (with_field (cr_word p) f lt gt eq so) l x ≡ update l (34 + f) (four_bits lt gt eq so) x
    by_same (inl e) =
        ap (put_cr (with_field (cr_word p) f lt gt eq so) l) e ∙ put_cr_at (with_field (cr_word p) f lt gt eq so) f l hf ∙ with_field_own (cr_word p) f lt gt eq so hf
        ∙ sym (ap (update l (34 + f) (four_bits lt gt eq so)) e ∙ update_same l (34 + f) (four_bits lt gt eq so))
    by_same (inr ne) =
        put_cr_keeps (with_field (cr_word p) f lt gt eq so) l x (l x) refl
        (λ k hk i. with_field_other (cr_word p) f (7 - k) lt gt eq so hf (λ q. ne (i ∙ ap (λ n. 34 + n) (omega arith))) ∙ field_of_word p fits k hk ∙ sym (agree (34 + k) (omega arith) (omega arith)) ∙ sym (ap l i))
        ∙ sym (update_other l (34 + f) (four_bits lt gt eq so) x ne)

-- CA is replaced
pub carry_put : (b : Bool) (p l : ℕ → ℕ) → InRange p → ((y : ℕ) → 42 ≤ y → y < 46 → l y ≡ p y) → (x : ℕ) → put_xer (with_ca (xer_word p) b) l x ≡ update l 42 (one_if b) x
carry_put b p l fits agree x = by_same (is_same x 42)
  where
    by_same : (x ≡ 42) ⊎ (x ≢ 42) → put_xer (with_ca (xer_word p) b) l x ≡ update l 42 (one_if b) x
    by_same (inl e) = ap (put_xer (with_ca (xer_word p) b) l) e ∙ ca_put (xer_word p) b ∙ sym (ap (update l 42 (one_if b)) e)
    by_same (inr ne) =
        put_xer_keeps (with_ca (xer_word p) b) l x (l x) refl
        (λ i. absurd (ne i))
        (λ i. so_with_ca (xer_word p) b ∙ so_of_word p fits ∙ sym (agree 43 (omega arith) (omega arith)) ∙ sym (ap l i))
        (λ i. ov_with_ca (xer_word p) b ∙ ov_of_word p fits ∙ sym (agree 44 (omega arith) (omega arith)) ∙ sym (ap l i))
        (λ i. xc_with_ca (xer_word p) b ∙ xc_of_word p fits ∙ sym (agree 45 (omega arith) (omega arith)) ∙ sym (ap l i))
        ∙ sym (update_other l 42 (one_if b) x ne)

-- what a form that gives one result writes, in the order of its tile
abbrev pub carried : Bool → Bool → (ℕ → ℕ) → ℕ → ℕ
carried true c l = update l 42 (one_if c)
carried false c l = l

abbrev pub field_of_number : ℕ → ℕ → ℕ
field_of_number n so = four_bits (is_less n 0 true) (is_less 0 n true) (eqb n 0) (eqb so 1)

abbrev pub recorded : Bool → ℕ → ℕ → (ℕ → ℕ) → ℕ → ℕ
recorded true n so l = update l 34 (field_of_number n so)
recorded false n so l = l

-- SO and CA, as the values have them
pub so_is : (v : GuestValues) (p : ℕ → ℕ) → InRange p → Stands v p → so v ≡ eqb (p 43) 1
so_is v p fits s = ap (λ w. eqb (w / 2 ^ 31 % 2) 1) s.xer ∙ ap (λ n. eqb n 1) (so_of_word p fits)

pub ca_is : (v : GuestValues) (p : ℕ → ℕ) → InRange p → Stands v p → ca v ≡ eqb (p 42) 1
ca_is v p fits s = ap (λ w. eqb (w / 2 ^ 29 % 2) 1) s.xer ∙ ap (λ n. eqb n 1) (ca_of_word p fits)

swapped : (l : ℕ → ℕ) (u v x : ℕ) → update (update l 34 u) 42 v x ≡ update (update l 42 v) 34 u x
swapped l u v x = grind (arith, nat_tests)

pub same_update : (f h : ℕ → ℕ) (k v x : ℕ) → f x ≡ h x → update f k v x ≡ update h k v x
same_update f h k v x e = ap (λ n. cond (eqb x k) v n) e

pub row_results : (carries records : Bool) (k n : ℕ) (carry : Bool) (e : Effect) (v : GuestValues) (p : ℕ → ℕ) → k < 34 → InRange p → Stands v p → Gives carries records n carry e v →
    (x : ℕ) → results carries records k n e p x ≡ recorded records n (p 43) (carried carries carry (update p k n)) x
row_results carries records k n carry e v p hk fits s g x = by_forms carries records g
  where
    apart : (y : ℕ) → 34 ≤ y → update p k n y ≡ p y
    apart y hy = update_other p k n y (λ q. omega arith)

    cr_is : e.cr ≡ with_field v.cr 0 (is_less n 0 true) (is_less 0 n true) (eqb n 0) (so v) → e.cr ≡ with_field (cr_word p) 0 (is_less n 0 true) (is_less 0 n true) (eqb n 0) (eqb (p 43) 1)
    cr_is h = h ∙ ap (λ w. with_field w 0 (is_less n 0 true) (is_less 0 n true) (eqb n 0) (so v)) s.cr ∙ ap (λ b. with_field (cr_word p) 0 (is_less n 0 true) (is_less 0 n true) (eqb n 0) b) (so_is v p fits s)

    put_field : e.cr ≡ with_field v.cr 0 (is_less n 0 true) (is_less 0 n true) (eqb n 0) (so v) → (y : ℕ) → put_cr e.cr (update p k n) y ≡ update (update p k n) 34 (field_of_number n (p 43)) y
    put_field h y = ap (λ w. put_cr w (update p k n) y) (cr_is h) ∙ field_put 0 (is_less n 0 true) (is_less 0 n true) (eqb n 0) (eqb (p 43) 1) p (update p k n) (omega arith) fits (λ z lz uz. apart z lz) y

    put_carry : e.xer ≡ with_ca v.xer carry → (l : ℕ → ℕ) → ((y : ℕ) → 42 ≤ y → y < 46 → l y ≡ p y) → (y : ℕ) → put_xer e.xer l y ≡ update l 42 (one_if carry) y
    put_carry h l agree y = ap (λ w. put_xer w l y) (h ∙ ap (λ w. with_ca w carry) s.xer) ∙ carry_put carry p l fits agree y

    off : (y : ℕ) → 42 ≤ y → put_cr e.cr (update p k n) y ≡ p y
    off y ly = put_cr_off e.cr y (update p k n) (inr ly) ∙ apart y (omega arith)

    by_forms : (carries records : Bool) → Gives carries records n carry e v → results carries records k n e p x ≡ recorded records n (p 43) (carried carries carry (update p k n)) x
    by_forms false false g = refl
    by_forms false true g = put_field (g.cr refl) x
    by_forms true false g = put_carry (g.xer refl) (update p k n) (λ y ly uy. apart y (omega arith)) x
    by_forms true true g =
        put_carry (g.xer refl) (put_cr e.cr (update p k n)) (λ y ly uy. off y ly) x
        ∙ same_update (put_cr e.cr (update p k n)) (update (update p k n) 34 (field_of_number n (p 43))) 42 (one_if carry) x (put_field (g.cr refl) x)
        ∙ swapped (update p k n) (field_of_number n (p 43)) (one_if carry) x

-- the bytes of CR and XER stay in range
abbrev pub AreFields : (ℕ → ℕ) → Type 0
AreFields locs = (x : ℕ) → 34 ≤ x → x < 46 → locs x < location_range x

pub fields_put_word : (k v : ℕ) (l : ℕ → ℕ) → k < 34 → AreFields l → AreFields (update l k v)
fields_put_word k v l hk fs x lx ux = subst (λ n. n < location_range x) (sym (update_other l k v x (λ q. omega arith))) (fs x lx ux)

pub fields_put_cr : (w : ℕ) (l : ℕ → ℕ) → AreFields l → AreFields (put_cr w l)
fields_put_cr w l fs x lx ux =
    let a : leb 34 x ≡ true = grind (arith, nat_tests) in
    let b : ltb x 34 ≡ false = grind (arith, nat_tests) in
    by_test a b (ltb x 42) refl (fs x lx ux)
  where
    by_test : leb 34 x ≡ true → ltb x 34 ≡ false → (t : Bool) → ltb x 42 ≡ t → l x < cond (ltb x 34) (2 ^ 32) (cond (ltb x 42) 16 (cond (ltb x 45) 2 128)) →
        cond (leb 34 x && ltb x 42) (w / 16 ^ (41 - x) % 16) (l x) < cond (ltb x 34) (2 ^ 32) (cond (ltb x 42) 16 (cond (ltb x 45) 2 128))
    by_test a b true e h = rw (a, b, e) (omega arith)
    by_test a b false e h = rw (a, e) (rw e at h)

pub fields_put_xer : (w : ℕ) (l : ℕ → ℕ) → AreFields l → AreFields (put_xer w l)
fields_put_xer w l fs x lx ux = let h = fs x lx ux in grind (arith, nat_tests)

pub fields_results : (carries records : Bool) (k v : ℕ) (e : Effect) (l : ℕ → ℕ) → k < 34 → AreFields l → AreFields (results carries records k v e l)
fields_results true true k v e l hk fs = fields_put_xer e.xer (put_cr e.cr (update l k v)) (fields_put_cr e.cr (update l k v) (fields_put_word k v l hk fs))
fields_results true false k v e l hk fs = fields_put_xer e.xer (update l k v) (fields_put_word k v l hk fs)
fields_results false true k v e l hk fs = fields_put_cr e.cr (update l k v) (fields_put_word k v l hk fs)
fields_results false false k v e l hk fs = fields_put_word k v l hk fs
