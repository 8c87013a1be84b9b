-- How the values of locations change with the registers that hold them, and CR and XER as words.
use Rattle.std.proofs.Common.{◌≡◌, ◌≢◌, ℕ, ◌+◌, ◌-◌, ◌*◌, ◌/◌, ◌%◌, ◌^◌, ◌<◌, ◌≤◌, ◌⊎◌, Bool, true, false, cond, eqb, leb, ltb, List, [], ◌∷◌, zero, suc, length, get_or, set, refl, sym, ◌∙◌, ap, inl, inr, arith, get_or-set_same, get_or-set_other}
use Rattle.std.proofs.Math.Nat.{zero-div}
use Rattle.std.proofs.lemmas.Bool.{cases_eq, cases_lt}
use Rattle.std.proofs.lemmas.Bool.Decides.{nat_tests}
use Rattle.machines.specs.Prelude.{update, cr_word, xer_word, put_cr, put_xer}
use Rattle.ppc_registers.specs.declared.registers.Registers.TheInside.{Inside}
use Rattle.ppc_registers.specs.Held.{location, listed_from, values_of_all, locs_of, HasNoMore}

is_equal : (a b : ℕ) → a ≡ b → eqb a b ≡ true
is_equal a b h = grind (arith, nat_tests)

is_other : (a b : ℕ) → a ≢ b → eqb a b ≡ false
is_other a b h = grind (arith, nat_tests)

is_below : (a b : ℕ) → a < b → ltb a b ≡ true
is_below a b h = grind (arith, nat_tests)

not_below : (a b : ℕ) → b ≤ a → ltb a b ≡ false
not_below a b h = grind (arith, nat_tests)

-- the registers hold these values of the locations that there are
record Holds (r : Inside) (locs : ℕ → ℕ) : Type 0 where
  pub locations : (x : ℕ) → x < 46 → location r x ≡ locs x

holds_its_own : (r : Inside) → Holds r (location r)
holds_its_own r = record { locations = λ x lt. refl }

-- there is no location from 46 on
nothing : (r : Inside) (x : ℕ) → 46 ≤ x → location r x ≡ 0
nothing r x le = rw (not_below x 32 (omega arith), is_other x 32 (omega arith), is_other x 33 (omega arith), not_below x 42 (omega arith), is_other x 42 (omega arith), is_other x 43 (omega arith), is_other x 44 (omega arith), is_other x 45 (omega arith)) refl

same : (f g : ℕ → ℕ) → ((x : ℕ) → f x ≡ g x) → f ≡ g
same f g h = λ i x. h x i

-- so where the values agree, and those that are none are 0, they are the same
whole : (r : Inside) (locs : ℕ → ℕ) → Holds r locs → ((x : ℕ) → 46 ≤ x → locs x ≡ 0) → location r ≡ locs
whole r locs holds none = same (location r) locs (λ x. by x (cases_lt x 46))
  where
    by : (x : ℕ) → (x < 46) ⊎ (46 ≤ x) → location r x ≡ locs x
    by x (inl lt) = holds.locations x lt
    by x (inr le) = nothing r x le ∙ sym (none x le)

none_updated : (r : Inside) (k v x : ℕ) → k < 46 → 46 ≤ x → update (location r) k v x ≡ 0
none_updated r k v x lt le = rw (is_other x k (omega arith)) (nothing r x le)

module _ (r : Inside) (locs : ℕ → ℕ) (holds : Holds r locs) where
  gpr_put : (g v : ℕ) → g < 32 → length r.gprs ≡ 32 → Holds (record r { gprs = set r.gprs g v }) (update locs g v)
  gpr_put g v lt wide = record { locations = at }
    where
      here : (x : ℕ) → x < 32 → location r x ≡ get_or r.gprs x 0
      here x low = rw (is_below x 32 low) refl

      at : (x : ℕ) → x < 46 → location (record r { gprs = set r.gprs g v }) x ≡ update locs g v x
      at x within = elim (cases_lt x 32) as (λ _. location (record r { gprs = set r.gprs g v }) x ≡ update locs g v x) [
        | inl low ↦ elim (cases_eq x g) as (λ _. location (record r { gprs = set r.gprs g v }) x ≡ update locs g v x) [
          | inl same ↦ rw (same, is_below g 32 lt, is_equal g g refl) (get_or-set_same r.gprs g v 0 (omega arith))
          | inr other ↦ rw (is_below x 32 low, is_other x g other) (get_or-set_other r.gprs g x v 0 other ∙ sym (here x low) ∙ holds.locations x within)
        ]
        | inr high ↦
            let e : location r x ≡ locs x = holds.locations x within in
            rw (not_below x 32 high, is_other x g (omega arith)) (rw (not_below x 32 high) at e)
      ]

-- eight digits of a word
digits : (c : ℕ) → c < 2 ^ 32 → c ≡ c / 16 ^ 7 % 16 * 2 ^ 28 + c / 16 ^ 6 % 16 * 2 ^ 24 + c / 16 ^ 5 % 16 * 2 ^ 20 + c / 16 ^ 4 % 16 * 2 ^ 16 + c / 16 ^ 3 % 16 * 2 ^ 12 + c / 16 ^ 2 % 16 * 2 ^ 8 + c / 16 % 16 * 2 ^ 4 + c % 16
digits c lt = omega arith

pub cr_is : (r : Inside) → r.cr < 2 ^ 32 → r.cr ≡ cr_word (location r)
cr_is r lt = omega (arith, digits r.cr lt)

pub xer_is : (r : Inside) → HasNoMore r → r.xer < 2 ^ 32 → r.xer ≡ xer_word (location r)
xer_is r no_more lt = omega (arith, no_more)

-- every location of registers that are 0 is 0
abbrev are_zeros : List ℕ → Bool
are_zeros [] = true
are_zeros (x ∷ xs) = cond (eqb x 0) (are_zeros xs) false

zero_at : (xs : List ℕ) (x : ℕ) → are_zeros xs ≡ true → get_or xs x 0 ≡ 0
zero_at [] x h = refl
zero_at (y ∷ ys) x h = at (eqb y 0) refl h (λ below k. zero_at ys k below) x
  where
    zero_of : (y : ℕ) → eqb y 0 ≡ true → y ≡ 0
    zero_of y h = grind (arith, nat_tests)

    at : (b : Bool) → eqb y 0 ≡ b → cond b (are_zeros ys) false ≡ true → (are_zeros ys ≡ true → (k : ℕ) → get_or ys k 0 ≡ 0)
        → (x : ℕ) → get_or (y ∷ ys) x 0 ≡ 0
    at true e h rest zero = zero_of y e
    at true e h rest (suc x) = rest h x
    at false e h rest x = absurd cc

pub zeros_hold : (gprs : List ℕ) → are_zeros gprs ≡ true → location (record { gprs = gprs; lr = 0; ctr = 0; cr = 0; xer = 0 }) ≡ (λ x. 0)
zeros_hold gprs h = whole (record { gprs = gprs; lr = 0; ctr = 0; cr = 0; xer = 0 }) (λ x. 0) (record { locations = at }) (λ x le. refl)
  where
    at : (x : ℕ) → x < 46 → location (record { gprs = gprs; lr = 0; ctr = 0; cr = 0; xer = 0 }) x ≡ 0
    at x within =
        let zero : get_or gprs x 0 ≡ 0 = zero_at gprs x h in
        let quotient : 0 / 16 ^ (41 - x) ≡ 0 = zero-div (16 ^ (41 - x)) in
        rw (zero, quotient) (grind arith)

-- the lower fields of CR don't depend on the highest
lower : (j u v : ℕ) → j < 7 → v < 2 ^ 28 → (u * 2 ^ 28 + v) / 16 ^ j % 16 ≡ v / 16 ^ j % 16
lower zero u v lt small = omega arith
lower (suc zero) u v lt small = omega arith
lower (suc (suc zero)) u v lt small = omega arith
lower (suc (suc (suc zero))) u v lt small = omega arith
lower (suc (suc (suc (suc zero)))) u v lt small = omega arith
lower (suc (suc (suc (suc (suc zero))))) u v lt small = omega arith
lower (suc (suc (suc (suc (suc (suc zero)))))) u v lt small = omega arith
lower (suc (suc (suc (suc (suc (suc (suc j))))))) u v lt small = absurd (omega arith)

-- locations that a new CR leaves
low_same : (r : Inside) (cr x : ℕ) → x < 34 → location (record r { cr = cr }) x ≡ location r x
low_same r cr x low = elim (cases_lt x 32) as (λ _. location (record r { cr = cr }) x ≡ location r x) [
  | inl gpr ↦ rw (is_below x 32 gpr) refl
  | inr high ↦ elim (cases_eq x 32) as (λ _. location (record r { cr = cr }) x ≡ location r x) [
    | inl same ↦ rw same refl
    | inr other ↦ let e : x ≡ 33 = omega arith in rw e refl
  ]
]

high_same : (r : Inside) (u cr x : ℕ) → cr ≡ u * 2 ^ 28 + r.cr % 2 ^ 28 → 34 < x → x < 46 → location (record r { cr = cr }) x ≡ location r x
high_same r u cr x is high within = elim (cases_lt x 42) as (λ _. location (record r { cr = cr }) x ≡ location r x) [
  | inl field ↦
      let below : r.cr ≡ r.cr / 2 ^ 28 * 2 ^ 28 + r.cr % 2 ^ 28 = omega arith in
      let same : cr / 16 ^ (41 - x) % 16 ≡ r.cr / 16 ^ (41 - x) % 16 =
      ap (λ c. c / 16 ^ (41 - x) % 16) is ∙ lower (41 - x) u (r.cr % 2 ^ 28) (omega arith) (omega arith)
      ∙ sym (lower (41 - x) (r.cr / 2 ^ 28) (r.cr % 2 ^ 28) (omega arith) (omega arith)) ∙ ap (λ c. c / 16 ^ (41 - x) % 16) (sym below) in
      rw (not_below x 32 (omega arith), is_other x 32 (omega arith), is_other x 33 (omega arith), is_below x 42 field) same
  | inr bits ↦ rw (not_below x 32 (omega arith), is_other x 32 (omega arith), is_other x 33 (omega arith), not_below x 42 bits) refl
]

-- CR with another first field
module _ (r : Inside) (locs : ℕ → ℕ) (holds : Holds r locs) where
  first_put : (u field cr : ℕ) → cr ≡ u * 2 ^ 28 + r.cr % 2 ^ 28 → u % 16 ≡ field → Holds (record r { cr = cr }) (update locs 34 field)
  first_put u field cr is first = record { locations = at }
    where
      at : (x : ℕ) → x < 46 → location (record r { cr = cr }) x ≡ update locs 34 field x
      at x within = elim (cases_lt x 34) as (λ _. location (record r { cr = cr }) x ≡ update locs 34 field x) [
        | inl low ↦
            let e : location r x ≡ locs x = holds.locations x within in
            rw (is_other x 34 (omega arith)) (low_same r cr x low ∙ e)
        | inr high ↦ elim (cases_eq x 34) as (λ _. location (record r { cr = cr }) x ≡ update locs 34 field x) [
          | inl same ↦ rw same (omega (arith, is, first))
          | inr other ↦
              let e : location r x ≡ locs x = holds.locations x within in
              rw (is_other x 34 other) (high_same r u cr x is (omega arith) within ∙ e)
        ]
      ]

pub gpr_is_put : (r : Inside) (g v : ℕ) → g < 32 → length r.gprs ≡ 32 → location (record r { gprs = set r.gprs g v }) ≡ update (location r) g v
gpr_is_put r g v lt wide = whole (record r { gprs = set r.gprs g v }) (update (location r) g v) (gpr_put r (location r) (holds_its_own r) g v lt wide) (λ x le. none_updated r g v x (omega arith) le)

pub first_is_put : (r : Inside) (u field cr : ℕ) → cr ≡ u * 2 ^ 28 + r.cr % 2 ^ 28 → u % 16 ≡ field → location (record r { cr = cr }) ≡ update (location r) 34 field
first_is_put r u field cr is first = whole (record r { cr = cr }) (update (location r) 34 field) (first_put r (location r) (holds_its_own r) u field cr is first) (λ x le. none_updated r 34 field x (omega arith) le)

pub lr_is_put : (r : Inside) (v : ℕ) → location (record r { lr = v }) ≡ update (location r) 32 v
lr_is_put r v = same (location (record r { lr = v })) (update (location r) 32 v) (λ x. by x (cases_eq x 32))
  where
    by : (x : ℕ) → (x ≡ 32) ⊎ (x ≢ 32) → location (record r { lr = v }) x ≡ update (location r) 32 v x
    by x (inl is) = rw is refl
    by x (inr other) = rw (is_other x 32 other) refl

pub ctr_is_put : (r : Inside) (v : ℕ) → location (record r { ctr = v }) ≡ update (location r) 33 v
ctr_is_put r v = same (location (record r { ctr = v })) (update (location r) 33 v) (λ x. by x (cases_eq x 33))
  where
    by : (x : ℕ) → (x ≡ 33) ⊎ (x ≢ 33) → location (record r { ctr = v }) x ≡ update (location r) 33 v x
    by x (inl is) = rw is refl
    by x (inr other) = rw (is_other x 33 other) refl

is_upto : (a b : ℕ) → a ≤ b → leb a b ≡ true
is_upto a b h = grind (arith, nat_tests)

not_upto : (a b : ℕ) → b < a → leb a b ≡ false
not_upto a b h = grind (arith, nat_tests)

pub cr_is_put : (r : Inside) (cr : ℕ) → location (record r { cr = cr }) ≡ put_cr cr (location r)
cr_is_put r cr = same (location (record r { cr = cr })) (put_cr cr (location r)) (λ x. by x (cases_lt x 34) (cases_lt x 42))
  where
    by : (x : ℕ) → (x < 34) ⊎ (34 ≤ x) → (x < 42) ⊎ (42 ≤ x) → location (record r { cr = cr }) x ≡ put_cr cr (location r) x
    by x (inl low) field = rw (not_upto 34 x low) (low_same r cr x low)
    by x (inr high) (inl field) = rw (is_upto 34 x high, is_below x 42 field, not_below x 32 (omega arith), is_other x 32 (omega arith), is_other x 33 (omega arith)) refl
    by x (inr high) (inr bits) = rw (is_upto 34 x high, not_below x 42 bits, not_below x 32 (omega arith), is_other x 32 (omega arith), is_other x 33 (omega arith)) refl

pub xer_is_put : (r : Inside) (xer kept : ℕ) → kept ≡ xer / 2 ^ 29 * 2 ^ 29 + xer % 2 ^ 7 → location (record r { xer = kept }) ≡ put_xer xer (location r)
xer_is_put r xer kept is = same (location (record r { xer = kept })) (put_xer xer (location r)) (λ x. by x (cases_lt x 42) (cases_eq x 42) (cases_eq x 43) (cases_eq x 44) (cases_eq x 45))
  where
    by : (x : ℕ) → (x < 42) ⊎ (42 ≤ x) → (x ≡ 42) ⊎ (x ≢ 42) → (x ≡ 43) ⊎ (x ≢ 43) → (x ≡ 44) ⊎ (x ≢ 44) → (x ≡ 45) ⊎ (x ≢ 45) → location (record r { xer = kept }) x ≡ put_xer xer (location r) x
    by x (inl lt) a b c d = rw (is_other x 45 (omega arith), is_other x 42 (omega arith), is_other x 44 (omega arith), is_other x 43 (omega arith)) (rw (is_below x 42 lt) refl)
    by x (inr le) (inl ca) b c d = rw ca (omega (arith, is))
    by x (inr le) (inr a) (inl so) c d = rw so (omega (arith, is))
    by x (inr le) (inr a) (inr b) (inl ov) d = rw ov (omega (arith, is))
    by x (inr le) (inr a) (inr b) (inr c) (inl xc) = rw xc (omega (arith, is))
    by x (inr le) (inr a) (inr b) (inr c) (inr d) = rw (is_other x 45 d, is_other x 42 a, is_other x 44 c, is_other x 43 b) refl

-- ---- the list of values, of which a caller sees the locations

listed_at : (f : ℕ → ℕ) (first n x : ℕ) → get_or (listed_from f first n) x 0 ≡ cond (ltb x n) (f (first + x)) 0
unfolding listed_from
listed_at f first zero x = rw (not_below x 0 (omega arith)) refl
listed_at f first (suc n) zero = rw (is_below 0 (suc n) (omega arith)) (ap f (omega arith))
listed_at f first (suc n) (suc x) = listed_at f (first + 1) n x ∙ by (cases_lt x n)
  where
    by : (x < n) ⊎ (n ≤ x) → cond (ltb x n) (f (first + 1 + x)) 0 ≡ cond (ltb (suc x) (suc n)) (f (first + suc x)) 0
    by (inl lt) = rw (is_below x n lt, is_below (suc x) (suc n) (omega arith)) (ap f (omega arith))
    by (inr le) = rw (not_below x n le, not_below (suc x) (suc n) (omega arith)) refl

values_are : (r : Inside) → locs_of (values_of_all r) ≡ location r
values_are r = same (locs_of (values_of_all r)) (location r) (λ x. listed_at (location r) 0 46 x ∙ by x (cases_lt x 46))
  where
    by : (x : ℕ) → (x < 46) ⊎ (46 ≤ x) → cond (ltb x 46) (location r (0 + x)) 0 ≡ location r x
    by x (inl lt) = let e : 0 + x ≡ x = omega arith in rw (is_below x 46 lt) (ap (location r) e)
    by x (inr le) = rw (not_below x 46 le) (sym (nothing r x le))

module _ (r : Inside) (values : List ℕ) (view : values_of_all r ≡ values) where
  shown : locs_of values ≡ location r
  shown = ap locs_of (sym view) ∙ values_are r

  pub gpr_shown : (g : ℕ) → g < 32 → get_or r.gprs g 0 ≡ locs_of values g
  gpr_shown g lt = sym (ap (λ f. f g) shown ∙ rw (is_below g 32 lt) refl)

  pub lr_shown : r.lr ≡ locs_of values 32
  lr_shown = sym (ap (λ f. f 32) shown)

  pub ctr_shown : r.ctr ≡ locs_of values 33
  ctr_shown = sym (ap (λ f. f 33) shown)

  pub cr_shown : r.cr < 2 ^ 32 → r.cr ≡ cr_word (locs_of values)
  cr_shown lt = cr_is r lt ∙ ap cr_word (sym shown)

  pub xer_shown : HasNoMore r → r.xer < 2 ^ 32 → r.xer ≡ xer_word (locs_of values)
  xer_shown no_more lt = xer_is r no_more lt ∙ ap xer_word (sym shown)

  pub gpr_changes : (g v : ℕ) → g < 32 → length r.gprs ≡ 32 → locs_of (values_of_all (record r { gprs = set r.gprs g v })) ≡ update (locs_of values) g v
  gpr_changes g v lt wide = values_are (record r { gprs = set r.gprs g v }) ∙ gpr_is_put r g v lt wide ∙ ap (λ f. update f g v) (sym shown)

  pub lr_changes : (v : ℕ) → locs_of (values_of_all (record r { lr = v })) ≡ update (locs_of values) 32 v
  lr_changes v = values_are (record r { lr = v }) ∙ lr_is_put r v ∙ ap (λ f. update f 32 v) (sym shown)

  pub ctr_changes : (v : ℕ) → locs_of (values_of_all (record r { ctr = v })) ≡ update (locs_of values) 33 v
  ctr_changes v = values_are (record r { ctr = v }) ∙ ctr_is_put r v ∙ ap (λ f. update f 33 v) (sym shown)

  pub cr_changes : (cr : ℕ) → locs_of (values_of_all (record r { cr = cr })) ≡ put_cr cr (locs_of values)
  cr_changes cr = values_are (record r { cr = cr }) ∙ cr_is_put r cr ∙ ap (put_cr cr) (sym shown)

  pub xer_changes : (xer kept : ℕ) → kept ≡ xer / 2 ^ 29 * 2 ^ 29 + xer % 2 ^ 7 → locs_of (values_of_all (record r { xer = kept })) ≡ put_xer xer (locs_of values)
  xer_changes xer kept is = values_are (record r { xer = kept }) ∙ xer_is_put r xer kept is ∙ ap (put_xer xer) (sym shown)

  -- the first field of CR
  pub first_is : r.cr / 2 ^ 28 % 16 ≡ locs_of values 34
  first_is = sym (ap (λ f. f 34) shown)

  pub first_changes : (u field cr : ℕ) → cr ≡ u * 2 ^ 28 + r.cr % 2 ^ 28 → u % 16 ≡ field → locs_of (values_of_all (record r { cr = cr })) ≡ update (locs_of values) 34 field
  first_changes u field cr is first = values_are (record r { cr = cr }) ∙ first_is_put r u field cr is first ∙ ap (λ f. update f 34 field) (sym shown)

pub zeros_shown : (gprs : List ℕ) → are_zeros gprs ≡ true → locs_of (values_of_all (record { gprs = gprs; lr = 0; ctr = 0; cr = 0; xer = 0 })) ≡ (λ x. 0)
zeros_shown gprs h = values_are (record { gprs = gprs; lr = 0; ctr = 0; cr = 0; xer = 0 }) ∙ zeros_hold gprs h
