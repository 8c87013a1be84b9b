-- The slots of a rule's parameters in order, and the one map, which holds those that stand in slots. This project's own.
use Rattle.std.proofs.Common.{◌≡◌, ◌≢◌, ℕ, zero, suc, ◌+◌, ◌<◌, ◌≤◌, Bool, true, false, cond, ◌==◌, if◌then◌else◌, List, [], ◌∷◌, length, take, slice_get, Option, Some, None, refl, sym, ap, ◌∙◌, arith}
use Rattle.std.proofs.lemmas.List.Sums.{sum_by-cons}
use Rattle.std.proofs.lemmas.Bool.Decides.{nat_tests}
use Rattle.std.proofs.lemmas.Option.{slice_get_within}
use Rattle.machines.specs.Prelude.{Map, IsHeld}
use Rattle.ppc_isa.specs.Map.{AreApart}
use Rattle.reg_map.specs.Prelude.{holds, slot_of}
use Rattle.rule_body.specs.Prelude.{slot_count}
use Rattle.rule_soundness.specs.Prelude.{slot_register}
use Rattle.rule_renaming.specs.Plain.{IsOwnMap}

one_more : (slots : List Bool) → slot_count (true ∷ slots) ≡ 1 + slot_count slots
one_more slots = sum_by-cons (λ s. cond s 1 0) true slots

none_more : (slots : List Bool) → slot_count (false ∷ slots) ≡ slot_count slots
none_more slots = sum_by-cons (λ s. cond s 1 0) false slots ∙ none_added (slot_count slots)
  where
    none_added : (n : ℕ) → 0 + n ≡ n
    none_added n = omega arith

-- the n-th of the parameters that stand in slots
pub find_slot : (slots : List Bool) (n : ℕ) → n < slot_count slots → (k : ℕ) × (slice_get slots k ≡ Some true) × (slot_count (take k slots) ≡ n)
find_slot [] n lt = absurd (omega (arith, lt))
find_slot (true ∷ slots) zero lt = (0, refl, refl)
find_slot (true ∷ slots) (suc n) lt = let e = one_more slots in let r = find_slot slots n (omega (arith, lt, e)) in (suc r.0, r.1, let d = r.2 in let f = one_more (take r.0 slots) in omega (arith, d, f))
find_slot (false ∷ slots) n lt = let e = none_more slots in let r = find_slot slots n (omega (arith, lt, e)) in (suc r.0, r.1, let d = r.2 in let f = none_more (take r.0 slots) in omega (arith, d, f))

-- its number, if there is one; `k` is the place of the first of these slots
pub nth : List Bool → ℕ → ℕ → Option ℕ
nth [] k n = None
nth (true ∷ slots) k zero = Some (k + 1)
nth (true ∷ slots) k (suc n) = nth slots (k + 1) n
nth (false ∷ slots) k n = nth slots (k + 1) n

nth_is : (slots : List Bool) (k j n : ℕ) → slice_get slots j ≡ Some true → slot_count (take j slots) ≡ n → nth slots k n ≡ Some (k + j + 1)
unfolding nth
nth_is [] k j n e c = absurd cc
nth_is (true ∷ slots) k zero zero e c = ap Some (omega arith)
nth_is (true ∷ slots) k zero (suc n) e c = absurd (omega (arith, c))
nth_is (true ∷ slots) k (suc j) zero e c = let f = one_more (take j slots) in absurd (omega (arith, c, f))
nth_is (true ∷ slots) k (suc j) (suc n) e c = let f = one_more (take j slots) in nth_is slots (k + 1) j n e (omega (arith, c, f)) ∙ ap Some (omega arith)
nth_is (false ∷ slots) k zero n e c = absurd cc
nth_is (false ∷ slots) k (suc j) n e c = let f = none_more (take j slots) in nth_is slots (k + 1) j n e (omega (arith, c, f)) ∙ ap Some (omega arith)

-- what has a number is a parameter in a slot
nth_from : (slots : List Bool) (k n x : ℕ) → nth slots k n ≡ Some x → (j : ℕ) × (slice_get slots j ≡ Some true) × (x ≡ k + j + 1) × (slot_count (take j slots) ≡ n)
unfolding nth
nth_from [] k n x e = absurd cc
nth_from (true ∷ slots) k zero x e = let h : k + 1 ≡ x = cc in (0, refl, omega (arith, h), refl)
nth_from (true ∷ slots) k (suc n) x e = let r = nth_from slots (k + 1) n x e in (suc r.0, r.1, let h = r.2 in omega (arith, h), let d = r.3 in let f = one_more (take r.0 slots) in omega (arith, d, f))
nth_from (false ∷ slots) k n x e = let r = nth_from slots (k + 1) n x e in (suc r.0, r.1, let h = r.2 in omega (arith, h), let d = r.3 in let f = none_more (take r.0 slots) in omega (arith, d, f))

in_all : (slots : List Bool) (j : ℕ) → slice_get slots j ≡ Some true → slot_count (take j slots) < slot_count slots
in_all [] j e = absurd cc
in_all (true ∷ slots) zero e = let f = one_more slots in omega (arith, f)
in_all (true ∷ slots) (suc j) e = let r = in_all slots j e in let f = one_more slots in let g = one_more (take j slots) in omega (arith, r, f, g)
in_all (false ∷ slots) zero e = absurd cc
in_all (false ∷ slots) (suc j) e = let r = in_all slots j e in let f = none_more slots in let g = none_more (take j slots) in omega (arith, r, f, g)

itself : (x : ℕ) → (x == x) ≡ true
itself x = grind (arith, nat_tests)

another : (x y : ℕ) → x ≢ y → (x == y) ≡ false
another x y ne = grind (arith, nat_tests)

abbrev pub own_map : List Bool → Map
own_map slots = record { ebx = nth slots 0 0; esi = nth slots 0 1; edi = nth slots 0 2 }

added : (k : ℕ) → ((0 + k + 1) == (k + 1)) ≡ true
added k = grind (arith, nat_tests)

module _ (slots : List Bool) where
  abbrev number : ℕ → Option ℕ
  number n = nth slots 0 n

  abbrev before : ℕ → ℕ
  before k = slot_count (take k slots)

  -- the n-th slot holds the parameter that is the n-th, and no other
  holds_its : (k n : ℕ) → slice_get slots k ≡ Some true → before k ≡ n → holds (number n) (k + 1) ≡ true
  holds_its k n e c = ap (λ o. holds o (k + 1)) (nth_is slots 0 k n e c) ∙ added k

  holds_none : (x n : ℕ) → ((k : ℕ) → slice_get slots k ≡ Some true → before k ≡ n → x ≡ k + 1 → ⊥) → holds (number n) x ≡ false
  holds_none x n none = by_number (number n) refl
    where
      by_number : (o : Option ℕ) → number n ≡ o → holds o x ≡ false
      by_number None e = refl
      by_number (Some y) e = let r = nth_from slots 0 n y e in let h = r.2 in another y x (λ d. none r.0 r.1 r.3 (omega (arith, h, d)))

  holds_no_other : (k n : ℕ) → (before k ≡ n → ⊥) → holds (number n) (k + 1) ≡ false
  holds_no_other k n ne = holds_none (k + 1) n (λ j e c h. let same : j ≡ k = omega (arith, h) in ne (ap before (sym same) ∙ c))

  in_slot_at : (k n : ℕ) → slice_get slots k ≡ Some true → before k ≡ n → n < 3 → slot_of (own_map slots) (k + 1) ≡ Some (slot_register n)
  in_slot_at k zero e c lt = ap (λ b. if b then Some 3 else if holds (number 1) (k + 1) then Some 6 else if holds (number 2) (k + 1) then Some 7 else None) (holds_its k 0 e c)
  in_slot_at k (suc zero) e c lt =
      ap (λ b. if b then Some 3 else if holds (number 1) (k + 1) then Some 6 else if holds (number 2) (k + 1) then Some 7 else None) (holds_no_other k 0 (λ d. absurd (omega (arith, c, d))))
      ∙ ap (λ b. if b then Some 6 else if holds (number 2) (k + 1) then Some 7 else None) (holds_its k 1 e c)
  in_slot_at k (suc (suc zero)) e c lt =
      ap (λ b. if b then Some 3 else if holds (number 1) (k + 1) then Some 6 else if holds (number 2) (k + 1) then Some 7 else None) (holds_no_other k 0 (λ d. absurd (omega (arith, c, d))))
      ∙ ap (λ b. if b then Some 6 else if holds (number 2) (k + 1) then Some 7 else None) (holds_no_other k 1 (λ d. absurd (omega (arith, c, d)))) ∙ ap (λ b. if b then Some 7 else None) (holds_its k 2 e c)
  in_slot_at k (suc (suc (suc n))) e c lt = absurd (omega (arith, lt))

  held : (n : ℕ) → length slots ≤ 6 → (o : Option ℕ) → number n ≡ o → IsHeld o
  held n few None e = tt
  held n few (Some x) e = let r = nth_from slots 0 n x e in let h = r.2 in let lt = slice_get_within slots r.0 true r.1 in omega (arith, h, lt, few)

  apart : (n p : ℕ) → n ≢ p → (o q : Option ℕ) → number n ≡ o → number p ≡ q → AreApart o q
  apart n p ne None q e d = apart_none q
    where
      apart_none : (q : Option ℕ) → AreApart None q
      apart_none None = tt
      apart_none (Some y) = tt
  apart n p ne (Some x) None e d = tt
  apart n p ne (Some x) (Some y) e d =
      let r = nth_from slots 0 n x e in let s = nth_from slots 0 p y d in let g = r.2 in let i = s.2 in
      λ h. let same : r.0 ≡ s.0 = omega (arith, g, i, h) in ne (sym r.3 ∙ ap before same ∙ s.3)

  pub own_is : length slots ≤ 6 → slot_count slots ≤ 3 → IsOwnMap slots (own_map slots)
  own_is few three = record {
    is_map = record {
      ebx = held 0 few (number 0) refl;
      esi = held 1 few (number 1) refl;
      edi = held 2 few (number 2) refl;
      ebx_esi = apart 0 1 (λ e. absurd (omega (arith, e))) (number 0) (number 1) refl refl;
      ebx_edi = apart 0 2 (λ e. absurd (omega (arith, e))) (number 0) (number 2) refl refl;
      esi_edi = apart 1 2 (λ e. absurd (omega (arith, e))) (number 1) (number 2) refl refl;
    };
    in_slots = λ k e. let lt = in_all slots k e in in_slot_at k (before k) e refl (omega (arith, lt, three));
    none_else = λ x none.
        ap (λ b. if b then Some 3 else if holds (number 1) x then Some 6 else if holds (number 2) x then Some 7 else None) (holds_none x 0 (λ k e c h. none k e h))
        ∙ ap (λ b. if b then Some 6 else if holds (number 2) x then Some 7 else None) (holds_none x 1 (λ k e c h. none k e h)) ∙ ap (λ b. if b then Some 7 else None) (holds_none x 2 (λ k e c h. none k e h));
  }
