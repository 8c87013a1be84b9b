-- What a row puts: the places behind it show the guest behind its word. This project's own.
use Rattle.std.proofs.Common.{◌≡◌, ◌≢◌, ℕ, ◌+◌, ◌-◌, ◌/◌, ◌%◌, ◌^◌, ◌<◌, ◌≤◌, ◌⊎◌, inl, inr, Bool, true, false, cond, eqb, ◌==◌, if◌then◌else◌, List, length, Option, Some, None, refl, sym, ap, ◌∙◌, subst, arith}
use Rattle.std.proofs.lemmas.Bool.Decides.{nat_tests}
use Rattle.machines.specs.Prelude.{GuestValues, Effect, update, cr_word, xer_word, put_cr, put_xer, puts_cr, puts_xer}
use Rattle.reg_map.specs.Prelude.{location_range}
use Rattle.row_laws.proofs.Fields.{InRange, put_cr_off, put_cr_at, put_xer_off}
use Rattle.symbolic_tiles.proofs.Memory.{update_other}
use Rattle.symbolic_tiles.proofs.FlowDone.{update_in_range}
use Rattle.rule_body.specs.declared.goal.Goal.{Goal}
use Rattle.rule_body.specs.Prelude.{template_of}
use Rattle.rule_soundness.specs.Prelude.{Match}
use Rattle.rule_soundness.specs.Fields.{Written, put_field, put_written}
use Rattle.rule_renaming.proofs.Parameters.{par_from, par_to, place_back, place_in}
use Rattle.place_circuits.specs.Places.{with_place}
use Rattle.row_circuits.specs.Windows.{with_target}
use Rattle.rule_places.specs.Guests.{ShowsGuest}
use Rattle.rule_rows.specs.Rows.{register_target}
use Rattle.rule_rows.proofs.Values.{Gives, IsXer}
use Rattle.rule_rows.proofs.Parameters.{IsIn}

-- the places behind a row that writes so
abbrev pub put_places : Written → Effect → (ℕ → ℕ) → ℕ → ℕ
put_places w e t = with_place 12 e.ctr (with_place 11 e.lr (with_place 7 e.xer (with_place 6 e.cr (with_target (register_target w.a) e.a (with_target (register_target w.d) e.d t)))))

-- the locations with the results in registers alone
abbrev put_registers : Written → Effect → (ℕ → ℕ) → ℕ → ℕ
put_registers w e l = put_field w.a e.a (put_field w.d e.d l)

place_other : (p n k : ℕ) (t : ℕ → ℕ) → k ≢ p → with_place p n t k ≡ t k
place_other p n k t ne = grind (arith, nat_tests)

-- the places of results in registers are behind the others
behind_targets : (w : Written) (e : Effect) (t : ℕ → ℕ) (k : ℕ) → k ≢ 12 → k ≢ 11 → k ≢ 7 → k ≢ 6 → put_places w e t k ≡ with_target (register_target w.a) e.a (with_target (register_target w.d) e.d t) k
behind_targets w e t k a b c d =
    let first = with_target (register_target w.a) e.a (with_target (register_target w.d) e.d t) in
    let second = with_place 6 e.cr first in
    let third = with_place 7 e.xer second in
    let fourth = with_place 11 e.lr third in
    place_other 12 e.ctr k fourth a ∙ place_other 11 e.lr k third b ∙ place_other 7 e.xer k second c ∙ place_other 6 e.cr k first d

-- layer by layer
ctr_other : (b : Bool) (v x : ℕ) (l : ℕ → ℕ) → x ≢ 33 → (if b then update l 33 v else l) x ≡ l x
ctr_other true v x l ne = update_other l 33 v x ne
ctr_other false v x l ne = refl

lr_other : (b : Bool) (v x : ℕ) (l : ℕ → ℕ) → x ≢ 32 → (if b then update l 32 v else l) x ≡ l x
lr_other true v x l ne = update_other l 32 v x ne
lr_other false v x l ne = refl

xer_other : (b : Bool) (e : Effect) (x : ℕ) (l : ℕ → ℕ) → x < 42 → puts_xer b e l x ≡ l x
xer_other true e x l lt = put_xer_off e.xer x l lt
xer_other false e x l lt = refl

cr_other : (b : Bool) (e : Effect) (x : ℕ) (l : ℕ → ℕ) → (x < 34) ⊎ (42 ≤ x) → puts_cr b e l x ≡ l x
cr_other true e x l off = put_cr_off e.cr x l off
cr_other false e x l off = refl

module _ (slots : List Bool) (few : length slots ≤ 6) where
  field_other : (f : Option ℕ) (v x : ℕ) (l : ℕ → ℕ) → IsIn slots f → 7 ≤ x → put_field f v l x ≡ l x
  field_other None v x l is far = refl
  field_other (Some p) v x l is far = let to = par_to slots p is in update_other l p v x (λ e. absurd (omega (arith, e, to, few, far)))

  -- beside parameters
  pub field_kept : (f : Option ℕ) (v x : ℕ) (l : ℕ → ℕ) → IsIn slots f → ((k : ℕ) → k < length slots → x ≢ k + 1) → put_field f v l x ≡ l x
  field_kept None v x l is none = refl
  field_kept (Some p) v x l is none = update_other l p v x (λ e. none (p - 1) (place_in slots p is) (e ∙ sym (place_back slots p is)))

  target_other : (f : Option ℕ) (v x : ℕ) (t : ℕ → ℕ) → IsIn slots f → 6 ≤ x → with_target (register_target f) v t x ≡ t x
  target_other None v x t is far = refl
  target_other (Some p) v x t is far = let to = par_to slots p is in let from = par_from slots p is in place_other (p - 1) v x t (λ e. absurd (omega (arith, e, to, from, few, far)))

  field_same : (f : Option ℕ) (v k : ℕ) (t l : ℕ → ℕ) → IsIn slots f → t k ≡ l (k + 1) → with_target (register_target f) v t k ≡ put_field f v l (k + 1)
  field_same None v k t l is same = same
  field_same (Some p) v k t l is same = by_test (eqb (k + 1) p) refl
    where
      equal : (x y : ℕ) → x ≡ y → (x == y) ≡ true
      equal x y e = grind (arith, nat_tests)

      differs : (x y : ℕ) → x ≡ y → eqb x y ≡ false → ⊥
      differs x y e d = grind (arith, nat_tests)

      by_test : (b : Bool) → eqb (k + 1) p ≡ b → with_place (p - 1) v t k ≡ update l p v (k + 1)
      by_test true e =
          let q : k + 1 ≡ p = grind (arith, nat_tests) in let i : k ≡ p - 1 = omega (arith, q) in
          ap (λ b. if b then v else t k) (equal k (p - 1) i) ∙ ap (λ b. cond b v (l (k + 1))) (sym e)
      by_test false e =
          let from = par_from slots p is in
          place_other (p - 1) v k t (λ i. let q : k + 1 ≡ p = omega (arith, i, from) in differs (k + 1) p q e) ∙ same ∙ ap (λ b. cond b v (l (k + 1))) (sym e)

  field_in_range : (f : Option ℕ) (v : ℕ) (l : ℕ → ℕ) → IsIn slots f → v < 2 ^ 32 → InRange l → InRange (put_field f v l)
  field_in_range None v l is small fits = fits
  field_in_range (Some p) v l is small fits = let to = par_to slots p is in update_in_range l p v (subst (λ r. v < r) (sym (word_range p (omega (arith, to, few)))) small) fits
    where
      word_range : (p : ℕ) → p < 34 → location_range p ≡ 2 ^ 32
      word_range p lt = grind (arith, nat_tests)

nibble : (x : ℕ) → 34 ≤ x → x < 42 → location_range x ≡ 16
nibble x ge lt = grind (arith, nat_tests)

cr_fits : (cr x : ℕ) (l : ℕ → ℕ) → l x < location_range x → ((x < 34) ⊎ (42 ≤ x)) ⊎ ((34 ≤ x) × (x < 42)) → put_cr cr l x < location_range x
cr_fits cr x l fits (inl off) = subst (λ v. v < location_range x) (sym (put_cr_off cr x l off)) fits
cr_fits cr x l fits (inr on) =
    let i : x ≡ 34 + (x - 34) = omega (arith, on.0) in
    subst (λ r. put_cr cr l x < r) (sym (nibble x on.0 on.1)) (subst (λ v. v < 16) (sym (ap (put_cr cr l) i ∙ put_cr_at cr (x - 34) l (omega (arith, on.1)))) (omega arith))

places_apart : (x : ℕ) → ((x < 34) ⊎ (42 ≤ x)) ⊎ ((34 ≤ x) × (x < 42))
places_apart x = grind arith

cr_in_range : (b : Bool) (e : Effect) (l : ℕ → ℕ) → InRange l → InRange (puts_cr b e l)
cr_in_range false e l fits = fits
cr_in_range true e l fits = λ x lt. cr_fits e.cr x l (fits x lt) (places_apart x)

xer_in_range : (b : Bool) (e : Effect) (l : ℕ → ℕ) → InRange l → InRange (puts_xer b e l)
xer_in_range false e l fits = fits
xer_in_range true e l fits = update_in_range _ 45 (e.xer % 2 ^ 7) (omega arith) (update_in_range _ 42 (e.xer / 2 ^ 29 % 2) (omega arith) (update_in_range _ 44 (e.xer / 2 ^ 30 % 2) (omega arith) (update_in_range l 43 (e.xer / 2 ^ 31 % 2) (omega arith) fits)))

-- CR and XER from their parts
cr_of_parts : (l l' : ℕ → ℕ) → ((x : ℕ) → 34 ≤ x → x < 42 → l x ≡ l' x) → cr_word l ≡ cr_word l'
cr_of_parts l l' same =
    let e0 = same 34 (omega arith) (omega arith) in let e1 = same 35 (omega arith) (omega arith) in let e2 = same 36 (omega arith) (omega arith) in let e3 = same 37 (omega arith) (omega arith) in
    let e4 = same 38 (omega arith) (omega arith) in let e5 = same 39 (omega arith) (omega arith) in let e6 = same 40 (omega arith) (omega arith) in let e7 = same 41 (omega arith) (omega arith) in
    omega (arith, e0, e1, e2, e3, e4, e5, e6, e7)

xer_of_parts : (l l' : ℕ → ℕ) → ((x : ℕ) → 42 ≤ x → x < 46 → l x ≡ l' x) → xer_word l ≡ xer_word l'
xer_of_parts l l' same =
    let e0 = same 42 (omega arith) (omega arith) in let e1 = same 43 (omega arith) (omega arith) in let e2 = same 44 (omega arith) (omega arith) in let e3 = same 45 (omega arith) (omega arith) in
    omega (arith, e0, e1, e2, e3)

cr_back : (cr : ℕ) (l : ℕ → ℕ) → cr < 2 ^ 32 → cr_word (put_cr cr l) ≡ cr
cr_back cr l h = omega (arith, h)

xer_back : (xer : ℕ) (l : ℕ → ℕ) → IsXer xer → xer_word (put_xer xer l) ≡ xer
xer_back xer l h = let a = h.0 in let b = h.1 in omega (arith, a, b)

module _ (slots : List Bool) (few : length slots ≤ 6) (w : Written) (in_d : IsIn slots w.d) (in_a : IsIn slots w.a) (v : GuestValues) (e : Effect) (gives : Gives w.cr w.xer w.lr w.ctr v e) (l : ℕ → ℕ) where
  abbrev registers : ℕ → ℕ
  registers = put_registers w e l

  registers_far : (x : ℕ) → 7 ≤ x → registers x ≡ l x
  registers_far x far = field_other slots few w.a e.a x (put_field w.d e.d l) in_a far ∙ field_other slots few w.d e.d x l in_d far

  -- a register behind a row
  written_low : (x : ℕ) → x < 32 → put_written w e l x ≡ registers x
  written_low x lt =
      ctr_other w.ctr e.ctr x _ (λ i. absurd (omega (arith, i, lt))) ∙ lr_other w.lr e.lr x _ (λ i. absurd (omega (arith, i, lt))) ∙ xer_other w.xer e x _ (omega (arith, lt)) ∙ cr_other w.cr e x _ (inl (omega (arith, lt)))

  pub written_others : (x : ℕ) → x < 32 → ((k : ℕ) → k < length slots → x ≢ k + 1) → put_written w e l x ≡ l x
  written_others x lt none = written_low x lt ∙ field_kept slots few w.a e.a x (put_field w.d e.d l) in_a none ∙ field_kept slots few w.d e.d x l in_d none

  written_lr : v.lr ≡ l 32 → put_written w e l 32 ≡ e.lr
  written_lr kept = ctr_other w.ctr e.ctr 32 _ (λ i. absurd (omega (arith, i))) ∙ by_lr w.lr refl
    where
      by_lr : (b : Bool) → w.lr ≡ b → (if b then update (puts_xer w.xer e (puts_cr w.cr e registers)) 32 e.lr else puts_xer w.xer e (puts_cr w.cr e registers)) 32 ≡ e.lr
      by_lr true i = refl
      by_lr false i = xer_other w.xer e 32 _ (omega arith) ∙ cr_other w.cr e 32 _ (inl (omega arith)) ∙ registers_far 32 (omega arith) ∙ sym kept ∙ sym (gives.lr_kept i)

  written_ctr : v.ctr ≡ l 33 → put_written w e l 33 ≡ e.ctr
  written_ctr kept = by_ctr w.ctr refl
    where
      linked : ℕ → ℕ
      linked = if w.lr then update (puts_xer w.xer e (puts_cr w.cr e registers)) 32 e.lr else puts_xer w.xer e (puts_cr w.cr e registers)

      by_ctr : (b : Bool) → w.ctr ≡ b → (if b then update linked 33 e.ctr else linked) 33 ≡ e.ctr
      by_ctr true i = refl
      by_ctr false i = lr_other w.lr e.lr 33 _ (λ i. absurd (omega (arith, i))) ∙ xer_other w.xer e 33 _ (omega arith) ∙ cr_other w.cr e 33 _ (inl (omega arith)) ∙ registers_far 33 (omega arith) ∙ sym kept ∙ sym (gives.ctr_kept i)

  written_cr : v.cr ≡ cr_word l → cr_word (put_written w e l) ≡ e.cr
  written_cr kept = cr_of_parts (put_written w e l) (puts_cr w.cr e registers) outer ∙ by_cr w.cr refl
    where
      outer : (x : ℕ) → 34 ≤ x → x < 42 → put_written w e l x ≡ puts_cr w.cr e registers x
      outer x ge lt = ctr_other w.ctr e.ctr x _ (λ i. absurd (omega (arith, i, ge))) ∙ lr_other w.lr e.lr x _ (λ i. absurd (omega (arith, i, ge))) ∙ xer_other w.xer e x _ lt

      by_cr : (b : Bool) → w.cr ≡ b → cr_word (puts_cr b e registers) ≡ e.cr
      by_cr true i = cr_back e.cr registers gives.cr
      by_cr false i = cr_of_parts registers l (λ x ge lt. registers_far x (omega (arith, ge))) ∙ sym kept ∙ sym (gives.cr_kept i)

  written_xer : v.xer ≡ xer_word l → xer_word (put_written w e l) ≡ e.xer
  written_xer kept = xer_of_parts (put_written w e l) (puts_xer w.xer e (puts_cr w.cr e registers)) outer ∙ by_xer w.xer refl
    where
      outer : (x : ℕ) → 42 ≤ x → x < 46 → put_written w e l x ≡ puts_xer w.xer e (puts_cr w.cr e registers) x
      outer x ge lt = ctr_other w.ctr e.ctr x _ (λ i. absurd (omega (arith, i, ge))) ∙ lr_other w.lr e.lr x _ (λ i. absurd (omega (arith, i, ge)))

      by_xer : (b : Bool) → w.xer ≡ b → xer_word (puts_xer b e (puts_cr w.cr e registers)) ≡ e.xer
      by_xer true i = xer_back e.xer (puts_cr w.cr e registers) gives.xer
      by_xer false i = xer_of_parts (puts_cr w.cr e registers) l (λ x ge lt. cr_other w.cr e x registers (inr ge) ∙ registers_far x (omega (arith, ge))) ∙ sym kept ∙ sym (gives.xer_kept i)

  -- every location has a value that it can have
  pub written_in_range : InRange l → InRange (put_written w e l)
  written_in_range fits = by_tests w.lr w.ctr
    where
      fits_below : InRange (puts_xer w.xer e (puts_cr w.cr e registers))
      fits_below = xer_in_range w.xer e _ (cr_in_range w.cr e _ (field_in_range slots few w.a e.a _ in_a gives.a (field_in_range slots few w.d e.d l in_d gives.d fits)))

      by_tests : (a c : Bool) → InRange (if c then update (if a then update (puts_xer w.xer e (puts_cr w.cr e registers)) 32 e.lr else puts_xer w.xer e (puts_cr w.cr e registers)) 33 e.ctr else (if a then update (puts_xer w.xer e (puts_cr w.cr e registers)) 32 e.lr else puts_xer w.xer e (puts_cr w.cr e registers)))
      by_tests true true = update_in_range _ 33 e.ctr gives.ctr (update_in_range _ 32 e.lr gives.lr fits_below)
      by_tests true false = update_in_range _ 32 e.lr gives.lr fits_below
      by_tests false true = update_in_range _ 33 e.ctr gives.ctr fits_below
      by_tests false false = fits_below

-- places that show a guest show it behind a row
pub puts_shown : (goal : Goal) (m : Match) (w : Written) (v : GuestValues) (e : Effect) (l t : ℕ → ℕ) → length (template_of goal).slots ≤ 6 → IsIn (template_of goal).slots w.d → IsIn (template_of goal).slots w.a → Gives w.cr w.xer w.lr w.ctr v e →
    v.cr ≡ cr_word l → v.xer ≡ xer_word l → v.lr ≡ l 32 → v.ctr ≡ l 33 → ShowsGuest goal m l t → ShowsGuest goal m (put_written w e l) (put_places w e t)
puts_shown goal m w v e l t few in_d in_a gives cr xer lr ctr shows =
    let slots = (template_of goal).slots in
    record {
      parameters = λ k lt. inner k (omega (arith, lt, few)) ∙ field_same slots few w.a e.a k _ _ in_a (field_same slots few w.d e.d k t l in_d (shows.parameters k lt)) ∙ sym (written_low slots few w in_d in_a v e gives l (k + 1) (omega (arith, lt, few)));
      cr = sym (written_cr slots few w in_d in_a v e gives l cr);
      xer = sym (written_xer slots few w in_d in_a v e gives l xer);
      lr = sym (written_lr slots few w in_d in_a v e gives l lr);
      ctr = sym (written_ctr slots few w in_d in_a v e gives l ctr);
      constants = λ j has. far (20 + j) (omega arith) ∙ target_other slots few w.a e.a (20 + j) _ in_a (omega arith) ∙ target_other slots few w.d e.d (20 + j) t in_d (omega arith) ∙ shows.constants j has;
    }
  where
    targets : ℕ → ℕ
    targets = with_target (register_target w.a) e.a (with_target (register_target w.d) e.d t)

    inner : (k : ℕ) → k < 6 → put_places w e t k ≡ targets k
    inner k lt = behind_targets w e t k (λ i. absurd (omega (arith, i, lt))) (λ i. absurd (omega (arith, i, lt))) (λ i. absurd (omega (arith, i, lt))) (λ i. absurd (omega (arith, i, lt)))

    far : (k : ℕ) → 20 ≤ k → put_places w e t k ≡ targets k
    far k ge = behind_targets w e t k (λ i. absurd (omega (arith, i, ge))) (λ i. absurd (omega (arith, i, ge))) (λ i. absurd (omega (arith, i, ge))) (λ i. absurd (omega (arith, i, ge)))
