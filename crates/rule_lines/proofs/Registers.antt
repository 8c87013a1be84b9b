-- The places of registers, one to one. This project's own.
use Rattle.std.proofs.Common.{◌≡◌, ◌≢◌, ℕ, zero, suc, ◌+◌, ◌<◌, ◌≤◌, ◌⊎◌, inl, inr, Bool, true, false, cond, ◌&&◌, ◌||◌, ◌==◌, nat_lt, IsTrue, List, [], ◌∷◌, length, take, slice_get, Some, refl, sym, ap, ◌∙◌, arith}
use Rattle.std.proofs.lemmas.List.Sums.{sum_by-cons}
use Rattle.std.proofs.lemmas.Bool.Decides.{nat_tests}
use Rattle.std.proofs.lemmas.Option.{slice_get_within}
use Rattle.rule_body.specs.Prelude.{slot_count, is_usable}
use Rattle.rule_soundness.specs.Prelude.{slot_register, body_slot}
use Rattle.rule_renaming.proofs.Slots.{find_slot}
use Rattle.rule_lines.specs.Lines.{nth_slot, register_place}

one_more : (slots : List Bool) → slot_count (true ∷ slots) ≡ 1 + slot_count slots
one_more slots = sum_by-cons (λ s. cond s 1 0) true slots

none_more : (slots : List Bool) → slot_count (false ∷ slots) ≡ slot_count slots
none_more slots = sum_by-cons (λ s. cond s 1 0) false slots ∙ none_added (slot_count slots)
  where
    none_added : (n : ℕ) → 0 + n ≡ n
    none_added n = omega arith

-- a parameter in a slot is found by its number among them
slot_found : (slots : List Bool) (k : ℕ) → slice_get slots k ≡ Some true → (nth_slot slots (slot_count (take k slots)) ≡ k) × (slot_count (take k slots) < slot_count slots)
unfolding nth_slot
slot_found [] k e = absurd cc
slot_found (true ∷ slots) zero e = (refl, let g = one_more slots in omega (arith, g))
slot_found (true ∷ slots) (suc k) e =
    let f = one_more (take k slots) in
    let g = one_more slots in
    let r = slot_found slots k e in
    let n : slot_count (true ∷ take k slots) ≡ suc (slot_count (take k slots)) = omega (arith, f) in
    (ap (nth_slot (true ∷ slots)) n ∙ ap suc r.0, let l = r.1 in omega (arith, f, g, l))
slot_found (false ∷ slots) zero e = absurd cc
slot_found (false ∷ slots) (suc k) e =
    let f = none_more (take k slots) in
    let g = none_more slots in
    let r = slot_found slots k e in
    (ap (nth_slot (false ∷ slots)) f ∙ ap suc r.0, let l = r.1 in omega (arith, f, g, l))

-- eax, ecx and edx, and the registers of parameters in slots
abbrev pub IsNamed : List Bool → ℕ → Type 0
IsNamed slots r = (r < 3) ⊎ ((k : ℕ) × (slice_get slots k ≡ Some true) × (r ≡ body_slot slots k))

pub temporary_place : (slots : List Bool) (r : ℕ) → r < 3 → register_place slots r ≡ 13 + r
temporary_place slots zero lt = refl
temporary_place slots (suc zero) lt = refl
temporary_place slots (suc (suc zero)) lt = refl
temporary_place slots (suc (suc (suc r))) lt = absurd (omega arith)

slot_number_place : (slots : List Bool) (n : ℕ) → n < 3 → register_place slots (slot_register n) ≡ nth_slot slots n
slot_number_place slots zero lt = refl
slot_number_place slots (suc zero) lt = refl
slot_number_place slots (suc (suc zero)) lt = refl
slot_number_place slots (suc (suc (suc n))) lt = absurd (omega arith)

pub slot_place : (slots : List Bool) (k : ℕ) → slot_count slots ≤ 3 → slice_get slots k ≡ Some true → register_place slots (body_slot slots k) ≡ k
slot_place slots k three e = let f = slot_found slots k e in let l = f.1 in slot_number_place slots (slot_count (take k slots)) (omega (arith, l, three)) ∙ f.0

-- two of them at one place are the same
pub places_apart : (slots : List Bool) (r q : ℕ) → length slots ≤ 6 → slot_count slots ≤ 3 → IsNamed slots r → IsNamed slots q → register_place slots r ≡ register_place slots q → r ≡ q
places_apart slots r q few three (inl x) (inl y) e = let a = temporary_place slots r x in let b = temporary_place slots q y in omega (arith, a, b, e)
places_apart slots r q few three (inl x) (inr y) e =
    let a = temporary_place slots r x in
    let b = ap (register_place slots) y.2 ∙ slot_place slots y.0 three y.1 in
    let w = slice_get_within slots y.0 true y.1 in
    absurd (omega (arith, a, b, e, w, few))
places_apart slots r q few three (inr x) (inl y) e =
    let a = ap (register_place slots) x.2 ∙ slot_place slots x.0 three x.1 in
    let b = temporary_place slots q y in
    let w = slice_get_within slots x.0 true x.1 in
    absurd (omega (arith, a, b, e, w, few))
places_apart slots r q few three (inr x) (inr y) e =
    x.2 ∙ ap (body_slot slots) (sym (ap (register_place slots) x.2 ∙ slot_place slots x.0 three x.1) ∙ e ∙ ap (register_place slots) y.2 ∙ slot_place slots y.0 three y.1) ∙ sym y.2

-- it is below 16, and where it is below 6 it is that of a parameter in a slot
pub place_low : (slots : List Bool) (r : ℕ) → length slots ≤ 6 → slot_count slots ≤ 3 → IsNamed slots r → register_place slots r < 16
place_low slots r few three (inl x) = let a = temporary_place slots r x in omega (arith, a, x)
place_low slots r few three (inr x) =
    let a = ap (register_place slots) x.2 ∙ slot_place slots x.0 three x.1 in
    let w = slice_get_within slots x.0 true x.1 in
    omega (arith, a, w, few)

one_of : true ≡ false → ⊥
one_of e = absurd cc

some_true : (b : Bool) → Some true ≡ Some false → ⊥
some_true b e = absurd cc

pub place_no_home : (slots : List Bool) (r k : ℕ) → length slots ≤ 6 → slot_count slots ≤ 3 → IsNamed slots r → slice_get slots k ≡ Some false → register_place slots r ≢ k
place_no_home slots r k few three (inl x) h e = let a = temporary_place slots r x in let w = slice_get_within slots k false h in absurd (omega (arith, a, w, few, e))
place_no_home slots r k few three (inr x) h e =
    let a = ap (register_place slots) x.2 ∙ slot_place slots x.0 three x.1 in
    some_true true (sym x.1 ∙ ap (slice_get slots) (sym a ∙ e) ∙ h)

is_below : (r n : ℕ) → nat_lt r n ≡ true → r < n
is_below r n e = grind (arith, nat_tests)

is_number : (r n : ℕ) → (r == n) ≡ true → r ≡ n
is_number r n e = grind (arith, nat_tests)

module _ (slots : List Bool) where
  by_slot : (n r : ℕ) → n < slot_count slots → r ≡ slot_register n → IsNamed slots r
  by_slot n r lt e = let f = find_slot slots n lt in inr (f.0, f.1, e ∙ ap slot_register (sym f.2))

  -- a register that a body may name is one of them
  pub usable_named : (r : ℕ) → IsTrue (is_usable (slot_count slots) r) → IsNamed slots r
  usable_named r is = by_tests (nat_lt r 3) (r == 3) (nat_lt 0 (slot_count slots)) (r == 6) (nat_lt 1 (slot_count slots)) (r == 7) (nat_lt 2 (slot_count slots)) refl refl refl refl refl refl refl is
    where
      third : (c z : Bool) → (r == 7) ≡ c → nat_lt 2 (slot_count slots) ≡ z → (c && z) ≡ true → IsNamed slots r
      third true true ec ez is = by_slot 2 r (is_below 2 (slot_count slots) ez) (is_number r 7 ec)
      third true false ec ez is = absurd cc
      third false z ec ez is = absurd cc

      second : (b y c z : Bool) → (r == 6) ≡ b → nat_lt 1 (slot_count slots) ≡ y → (r == 7) ≡ c → nat_lt 2 (slot_count slots) ≡ z → ((b && y) || (c && z)) ≡ true → IsNamed slots r
      second true true c z eb ey ec ez is = by_slot 1 r (is_below 1 (slot_count slots) ey) (is_number r 6 eb)
      second true false c z eb ey ec ez is = third c z ec ez is
      second false y c z eb ey ec ez is = third c z ec ez is

      first : (a x b y c z : Bool) → (r == 3) ≡ a → nat_lt 0 (slot_count slots) ≡ x → (r == 6) ≡ b → nat_lt 1 (slot_count slots) ≡ y → (r == 7) ≡ c → nat_lt 2 (slot_count slots) ≡ z → ((a && x) || (b && y) || (c && z)) ≡ true → IsNamed slots r
      first true true b y c z ea ex eb ey ec ez is = by_slot 0 r (is_below 0 (slot_count slots) ex) (is_number r 3 ea)
      first true false b y c z ea ex eb ey ec ez is = second b y c z eb ey ec ez is
      first false x b y c z ea ex eb ey ec ez is = second b y c z eb ey ec ez is

      by_tests : (t a x b y c z : Bool) → nat_lt r 3 ≡ t → (r == 3) ≡ a → nat_lt 0 (slot_count slots) ≡ x → (r == 6) ≡ b → nat_lt 1 (slot_count slots) ≡ y → (r == 7) ≡ c → nat_lt 2 (slot_count slots) ≡ z →
          (t || (a && x) || (b && y) || (c && z)) ≡ true → IsNamed slots r
      by_tests true a x b y c z et ea ex eb ey ec ez is = inl (is_below r 3 et)
      by_tests false a x b y c z et ea ex eb ey ec ez is = first a x b y c z ea ex eb ey ec ez is
