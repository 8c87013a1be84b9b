-- Numbers of slots: one at each parameter that stands in a slot. This project's own.
use Rattle.std.proofs.Common.{◌≡◌, ◌≢◌, ℕ, zero, suc, ◌+◌, ◌<◌, ◌≤◌, ◌⊎◌, ⊎_elim, ◌==◌, if◌then◌else◌, cond, Bool, true, false, List, [], ◌∷◌, take, length, get_or, slice_get, slice_set, Option, Some, None, refl, sym, ap, ◌∙◌, subst, arith}
use Rattle.std.proofs.lemmas.Bool.{cases_lt}
use Rattle.std.proofs.lemmas.List.{get_or-set_other, length-set}
use Rattle.std.proofs.lemmas.Grind.{get_or-set_at}
use Rattle.std.proofs.lemmas.List.Recursion.{is_count_by}
use Rattle.std.proofs.lemmas.List.Sums.{count_by_more_no, count_by_more_yes}
use Rattle.std.proofs.lemmas.Option.{get_or_from_slice_get, slice_get_within}
use Rattle.machines.specs.Prelude.{Map, ebx, esi}
use Rattle.reg_map.specs.Prelude.{slot_of}
use Rattle.rule_body.specs.Prelude.{slot_count}
use Rattle.rule_soundness.specs.Prelude.{slot_register}
use Rattle.rule_match.specs.SlotNumbers.{IsPlace, ArePlaces, AreSlotNumbers, IsSlotNumber}

pub same_register : {x y : ℕ} → Some x ≡ Some y → x ≡ y
same_register e = cc

true_or_false : (x : Option Bool) → x ≡ Some true → x ≡ Some false → ⊥
true_or_false x e d = let h : Some true ≡ Some false = sym e ∙ d in cc

pub not_at_home : (x : Option ℕ) → IsPlace true x → IsSlotNumber x None → ⊥
not_at_home None p n = absurd p
not_at_home (Some r) p n = absurd n

pub not_in_slot : (x : Option ℕ) (n : ℕ) → IsPlace false x → IsSlotNumber x (Some n) → ⊥
not_in_slot None n p s = absurd s
not_in_slot (Some r) n p s = absurd p

pub at_home_is : (x : Option ℕ) → IsSlotNumber x None → x ≡ None
at_home_is None s = refl
at_home_is (Some r) s = absurd s

pub in_slot_is : (x : Option ℕ) (n : ℕ) → IsSlotNumber x (Some n) → (n < 3) × (x ≡ Some (slot_register n))
in_slot_is None n s = absurd s
in_slot_is (Some r) n s = (s.0, ap (λ (k : ℕ). Some k) (sym s.1))

-- the number of a slot from its register
pub slot_back : (n : ℕ) → n < 3 → (if slot_register n == ebx then 0 else if slot_register n == esi then 1 else 2) ≡ n
slot_back zero lt = refl
slot_back (suc zero) lt = refl
slot_back (suc (suc zero)) lt = refl
slot_back (suc (suc (suc n))) lt = absurd (omega (arith, lt))

pub one_slot : (a b : ℕ) → a < 3 → b < 3 → slot_register a ≡ slot_register b → a ≡ b
one_slot a b p q e = sym (slot_back a p) ∙ ap (λ r. if r == ebx then 0 else if r == esi then 1 else 2) e ∙ slot_back b q

-- their count step by step
trues : List Bool → ℕ
trues [] = 0
trues (true ∷ xs) = 1 + trues xs
trues (false ∷ xs) = trues xs

trues_are : (xs : List Bool) → trues xs ≡ slot_count xs
unfolding trues
trues_are xs = is_count_by trues (λ s. s) refl each xs
  where
    each : (x : Bool) (xs : List Bool) → trues (x ∷ xs) ≡ cond x (1 + trues xs) (trues xs)
    each true xs = refl
    each false xs = refl

one_more : (xs : List Bool) → slot_count (true ∷ xs) ≡ 1 + slot_count xs
unfolding trues
one_more xs = sym (trues_are (true ∷ xs)) ∙ ap (λ (n : ℕ). 1 + n) (trues_are xs)

-- how many stand in slots before one that does
pub count_before : (xs : List Bool) (k j : ℕ) → k < j → slice_get xs k ≡ Some true → slot_count (take k xs) < slot_count (take j xs)
count_before [] k j lt e = absurd cc
count_before (x ∷ xs) k zero lt e = absurd (omega (arith, lt))
count_before (true ∷ xs) zero (suc j) lt e = let u : slot_count (take (suc j) (true ∷ xs)) ≡ 1 + slot_count (take j xs) = one_more (take j xs) in let z : slot_count (take zero (true ∷ xs)) ≡ 0 = refl in omega (arith, u, z)
count_before (false ∷ xs) zero (suc j) lt e = absurd cc
count_before (true ∷ xs) (suc k) (suc j) lt e =
    let r = count_before xs k j (omega (arith, lt)) e in
    let u : slot_count (take (suc j) (true ∷ xs)) ≡ 1 + slot_count (take j xs) = one_more (take j xs) in
    let v : slot_count (take (suc k) (true ∷ xs)) ≡ 1 + slot_count (take k xs) = one_more (take k xs) in
    omega (arith, r, u, v)
count_before (false ∷ xs) (suc k) (suc j) lt e = count_before xs k j (omega (arith, lt)) e

pub count_within : (xs : List Bool) (k : ℕ) → slice_get xs k ≡ Some true → slot_count (take k xs) < slot_count xs
count_within [] k e = absurd cc
count_within (true ∷ xs) zero e = let u : slot_count (true ∷ xs) ≡ 1 + slot_count xs = one_more xs in let z : slot_count (take zero (true ∷ xs)) ≡ 0 = refl in omega (arith, u, z)
count_within (false ∷ xs) zero e = absurd cc
count_within (true ∷ xs) (suc k) e =
    let r = count_within xs k e in
    let u : slot_count (true ∷ xs) ≡ 1 + slot_count xs = one_more xs in
    let v : slot_count (take (suc k) (true ∷ xs)) ≡ 1 + slot_count (take k xs) = one_more (take k xs) in
    omega (arith, r, u, v)
count_within (false ∷ xs) (suc k) e = count_within xs k e

pub count_all : (xs : List Bool) (k : ℕ) → length xs ≤ k → slot_count (take k xs) ≡ slot_count xs
count_all [] zero le = refl
count_all [] (suc k) le = refl
count_all (x ∷ xs) zero le = absurd (omega (arith, le))
count_all (true ∷ xs) (suc k) le = one_more (take k xs) ∙ ap (λ (n : ℕ). 1 + n) (count_all xs k (omega (arith, le))) ∙ sym (one_more xs)
count_all (false ∷ xs) (suc k) le = count_all xs k (omega (arith, le))

-- the parameter that stands in slot n
record IsNth (xs : List Bool) (n : ℕ) : Type 0 where
  place : ℕ
  in_slot : slice_get xs place ≡ Some true
  counted : slot_count (take place xs) ≡ n

nth : (xs : List Bool) (n : ℕ) → n < slot_count xs → IsNth xs n
nth [] n lt = let z : slot_count [] ≡ 0 = refl in absurd (omega (arith, lt, z))
nth (true ∷ xs) zero lt = record { place = 0; in_slot = refl; counted = refl }
nth (true ∷ xs) (suc n) lt =
    let u : slot_count (true ∷ xs) ≡ 1 + slot_count xs = one_more xs in
    let r = nth xs n (omega (arith, lt, u)) in
    record { place = suc r.place; in_slot = r.in_slot; counted = (let t = one_more (take r.place xs) in let c = r.counted in omega (arith, t, c)) }
nth (false ∷ xs) n lt = let r = nth xs n lt in record { place = suc r.place; in_slot = r.in_slot; counted = r.counted }

pub same_lists : (xs ys : List ℕ) → length xs ≡ length ys → ((k : ℕ) → get_or xs k 0 ≡ get_or ys k 0) → xs ≡ ys
same_lists [] [] same each = refl
same_lists [] (y ∷ ys) same each = absurd (omega (arith, same))
same_lists (x ∷ xs) [] same each = absurd (omega (arith, same))
same_lists (x ∷ xs) (y ∷ ys) same each = ap (λ z. z ∷ xs) (each 0) ∙ ap (λ zs. y ∷ zs) (same_lists xs ys (omega (arith, same)) (λ k. each (suc k)))

pub same_numbers : (slots : List Bool) (map : Map) (gprs xs ys : List ℕ) → AreSlotNumbers slots map gprs xs → AreSlotNumbers slots map gprs ys → xs ≡ ys
same_numbers slots map gprs xs ys p q = same_lists xs ys (p.three ∙ sym q.three) (λ n. ⊎_elim (λ lt. there n (nth slots n lt)) (λ ge. p.past n ge ∙ sym (q.past n ge)) (cases_lt n (slot_count slots)))
  where
    there : (n : ℕ) → IsNth slots n → get_or xs n 0 ≡ get_or ys n 0
    there n at =
        let e : slot_register (get_or xs (slot_count (take at.place slots)) 0) ≡ slot_register (get_or ys (slot_count (take at.place slots)) 0) = same_register (sym (p.in_slots at.place at.in_slot) ∙ q.in_slots at.place at.in_slot) in
        subst (λ k. get_or xs k 0 ≡ get_or ys k 0) at.counted (one_slot (get_or xs (slot_count (take at.place slots)) 0) (get_or ys (slot_count (take at.place slots)) 0) (p.below (slot_count (take at.place slots))) (q.below (slot_count (take at.place slots))) e)

pub places_of : (slots : List Bool) (map : Map) (gprs numbers : List ℕ) → AreSlotNumbers slots map gprs numbers → ArePlaces slots map gprs
places_of slots map gprs numbers are k true e = subst (IsPlace true) (sym (are.in_slots k e)) tt
places_of slots map gprs numbers are k false e = subst (IsPlace false) (sym (are.at_home k e)) tt

-- a list of which one number is set
set_read : (P : ℕ → Type 0) (xs : List ℕ) (i k n : ℕ) → i < length xs → (k ≡ i → P n) → (k ≢ i → P (get_or xs k 0)) → P (get_or (slice_set xs i n) k 0)
set_read P xs i k n lt same other = ⊎_elim (λ a. apart (λ e. omega (arith, a, e))) (λ a. ⊎_elim (λ b. apart (λ e. omega (arith, b, e))) (λ b. at (omega (arith, a, b))) (cases_lt i k)) (cases_lt k i)
  where
    apart : k ≢ i → P (get_or (slice_set xs i n) k 0)
    apart ne = subst P (sym (get_or-set_other xs i k n 0 ne)) (other ne)

    at : k ≡ i → P (get_or (slice_set xs i n) k 0)
    at e = subst P (sym (get_or-set_at xs i k n 0 e lt)) (same e)

module _ (slots : List Bool) (map : Map) (gprs : List ℕ) where
  -- the numbers of the parameters before a place
  abbrev pub AreNumbersTo : ℕ → List ℕ → ℕ → Type 0
  AreNumbersTo place numbers count =
      (count ≡ slot_count (take place slots)) × (length numbers ≡ 3)
      × ((k : ℕ) → get_or numbers k 0 < 3) × ((k : ℕ) → count ≤ k → get_or numbers k 0 ≡ 0)
      × ((k : ℕ) → k < place → slice_get slots k ≡ Some true → slot_of map (get_or gprs k 0) ≡ Some (slot_register (get_or numbers (slot_count (take k slots)) 0)))
      × ((k : ℕ) → k < place → slice_get slots k ≡ Some false → slot_of map (get_or gprs k 0) ≡ None)

  pub one_at_home : (place : ℕ) (numbers : List ℕ) (count : ℕ) → slice_get slots place ≡ Some false → slot_of map (get_or gprs place 0) ≡ None → AreNumbersTo place numbers count → AreNumbersTo (place + 1) numbers count
  one_at_home place numbers count home none are = (
    are.0 ∙ sym (count_by_more_no (λ s. s) slots place false (slice_get_within slots place false home) (get_or_from_slice_get slots place false false home)),
    are.1,
    are.2,
    are.3,
    λ k lt e. ⊎_elim (λ less. are.4 k less e) (λ ge. absurd (true_or_false (slice_get slots k) e (ap (slice_get slots) (at k lt ge) ∙ home))) (cases_lt k place),
    λ k lt e. ⊎_elim (λ less. are.5 k less e) (λ ge. ap (λ n. slot_of map (get_or gprs n 0)) (at k lt ge) ∙ none) (cases_lt k place),
  )
    where
      at : (k : ℕ) → k < place + 1 → place ≤ k → k ≡ place
      at k lt ge = omega (arith, lt, ge)

  pub one_in_slot : (place : ℕ) (numbers : List ℕ) (count n : ℕ) → slice_get slots place ≡ Some true → n < 3 → slot_of map (get_or gprs place 0) ≡ Some (slot_register n) → count < 3 → AreNumbersTo place numbers count → AreNumbersTo (place + 1) (slice_set numbers count n) (count + 1)
  one_in_slot place numbers count n slot small register few are = (
    let c = are.0 in let m = count_by_more_yes (λ s. s) slots place false (slice_get_within slots place true slot) (get_or_from_slice_get slots place true false slot) in omega (arith, c, m),
    length-set numbers count n ∙ are.1,
    λ k. set_read (λ x. x < 3) numbers count k n within (λ e. small) (λ ne. are.2 k),
    λ k ge. set_read (λ x. x ≡ 0) numbers count k n within (λ e. absurd (omega (arith, ge, e))) (λ ne. are.3 k (omega (arith, ge))),
    λ k lt e. ⊎_elim (λ less. before k less e) (λ ge. here k (at k lt ge)) (cases_lt k place),
    λ k lt e. ⊎_elim (λ less. are.5 k less e) (λ ge. absurd (true_or_false (slice_get slots k) (ap (slice_get slots) (at k lt ge) ∙ slot) e)) (cases_lt k place),
  )
    where
      within : count < length numbers
      within = let l = are.1 in omega (arith, l, few)

      at : (k : ℕ) → k < place + 1 → place ≤ k → k ≡ place
      at k lt ge = omega (arith, lt, ge)

      before : (k : ℕ) → k < place → slice_get slots k ≡ Some true → slot_of map (get_or gprs k 0) ≡ Some (slot_register (get_or (slice_set numbers count n) (slot_count (take k slots)) 0))
      before k less e =
          set_read (λ x. slot_of map (get_or gprs k 0) ≡ Some (slot_register x)) numbers count (slot_count (take k slots)) n within
          (λ same. let c = are.0 in let b = count_before slots k place less e in absurd (omega (arith, c, b, same))) (λ ne. are.4 k less e)

      here : (k : ℕ) → k ≡ place → slot_of map (get_or gprs k 0) ≡ Some (slot_register (get_or (slice_set numbers count n) (slot_count (take k slots)) 0))
      here k same =
          set_read (λ x. slot_of map (get_or gprs k 0) ≡ Some (slot_register x)) numbers count (slot_count (take k slots)) n within
          (λ e. ap (λ j. slot_of map (get_or gprs j 0)) same ∙ register) (λ ne. absurd (ne (ap (λ j. slot_count (take j slots)) same ∙ sym are.0)))

  pub all_numbers : (place : ℕ) (numbers : List ℕ) (count : ℕ) → length slots ≤ place → AreNumbersTo place numbers count → AreSlotNumbers slots map gprs numbers
  all_numbers place numbers count all are =
      record {
        three = are.1;
        below = are.2;
        past = λ k ge. are.3 k (let c = are.0 in let s = count_all slots place all in omega (arith, c, s, ge));
        in_slots = λ k e. are.4 k (let lt = slice_get_within slots k true e in omega (arith, lt, all)) e;
        at_home = λ k e. are.5 k (let lt = slice_get_within slots k false e in omega (arith, lt, all)) e;
      }
