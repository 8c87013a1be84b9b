-- The parameters of a rule by their numbers, and what a match and the one map say of them. This project's own.
use Rattle.std.proofs.Common.{◌≡◌, ℕ, ◌+◌, ◌-◌, ◌<◌, ◌≤◌, Bool, true, false, ◌&&◌, leb, List, length, get_or, slice_get, Some, None, sym, ap, ◌∙◌, subst, arith}
use Rattle.std.proofs.lemmas.Bool.Decides.{nat_tests}
use Rattle.std.proofs.lemmas.Option.{slice_get-get_or, slice_get_within, get_or_from_slice_get}
use Rattle.machines.specs.Prelude.{Instr, Map, IsMap}
use Rattle.reg_map.specs.Prelude.{slot_of}
use Rattle.rule_soundness.specs.Prelude.{Match, IsMatch, body_slot}
use Rattle.rule_renaming.specs.Plain.{IsOwnMap}

-- p is the number of a parameter, and it stands in a slot
abbrev pub is_parameter : List Bool → ℕ → Bool
is_parameter slots p = leb 1 p && leb p (length slots)

abbrev pub is_in_slot : List Bool → ℕ → Bool
is_in_slot slots p = get_or slots (p - 1) false

abbrev pub slot_at : List Bool → ℕ → ℕ
slot_at slots p = body_slot slots (p - 1)

pub par_from : (slots : List Bool) (p : ℕ) → is_parameter slots p ≡ true → 1 ≤ p
par_from slots p is = grind (arith, nat_tests)

pub par_to : (slots : List Bool) (p : ℕ) → is_parameter slots p ≡ true → p ≤ length slots
par_to slots p is = grind (arith, nat_tests)

pub par_is : (slots : List Bool) (p : ℕ) → 1 ≤ p → p ≤ length slots → is_parameter slots p ≡ true
par_is slots p from to = grind (arith, nat_tests)

-- p is the parameter at place p - 1
module _ (slots : List Bool) (p : ℕ) (is : is_parameter slots p ≡ true) where
  pub place_back : p - 1 + 1 ≡ p
  place_back = let f = par_from slots p is in omega (arith, f)

  pub place_in : p - 1 < length slots
  place_in = let f = par_from slots p is in let t = par_to slots p is in omega (arith, f, t)

  pub place_has : slice_get slots (p - 1) ≡ Some (is_in_slot slots p)
  place_has = slice_get-get_or slots (p - 1) false place_in

module _ (slots : List Bool) (m : Match) where
  -- what a match says of the parameters
  pub record Bound (map : Map) : Type 0 where
    pub few : length slots ≤ 6
    pub is_map : IsMap map
    pub gprs : (p : ℕ) → is_parameter slots p ≡ true → m.gpr p < 32
    pub apart : (p q : ℕ) → is_parameter slots p ≡ true → is_parameter slots q ≡ true → m.gpr p ≡ m.gpr q → p ≡ q
    pub in_slots : (p : ℕ) → is_parameter slots p ≡ true → is_in_slot slots p ≡ true → slot_of map (m.gpr p) ≡ Some (m.register (slot_at slots p))
    pub at_home : (p : ℕ) → is_parameter slots p ≡ true → is_in_slot slots p ≡ false → slot_of map (m.gpr p) ≡ None

  pub bound_of : (words : List Instr) (map : Map) → length slots ≤ 6 → IsMap map → IsMatch slots words map m → Bound map
  bound_of words map few is_map is = record {
    few = few;
    is_map = is_map;
    gprs = λ p e. subst (λ k. m.gpr k < 32) (place_back slots p e) (is.gprs (p - 1) (place_in slots p e));
    apart = λ p q e d h. sym (place_back slots p e) ∙ ap (λ k. k + 1) (is.apart (p - 1) (q - 1) (place_in slots p e) (place_in slots q d) (ap m.gpr (place_back slots p e) ∙ h ∙ sym (ap m.gpr (place_back slots q d)))) ∙ place_back slots q d;
    in_slots = λ p e s. ap (λ k. slot_of map (m.gpr k)) (sym (place_back slots p e)) ∙ is.in_slots (p - 1) (place_has slots p e ∙ ap Some s);
    at_home = λ p e s. ap (λ k. slot_of map (m.gpr k)) (sym (place_back slots p e)) ∙ is.at_home (p - 1) (place_has slots p e ∙ ap Some s);
  }

-- what the one map says of them
pub record Own (slots : List Bool) (own : Map) : Type 0 where
  pub in_slots : (p : ℕ) → is_parameter slots p ≡ true → is_in_slot slots p ≡ true → slot_of own p ≡ Some (slot_at slots p)
  pub at_home : (x : ℕ) → (is_parameter slots x && is_in_slot slots x) ≡ false → slot_of own x ≡ None

pub slot_par : (slots : List Bool) (k : ℕ) (s : Bool) → slice_get slots k ≡ Some s → (is_parameter slots (k + 1) ≡ true) × (is_in_slot slots (k + 1) ≡ s)
slot_par slots k s e =
    let lt = slice_get_within slots k s e in
    let b : k + 1 - 1 ≡ k = omega arith in
    (par_is slots (k + 1) (omega arith) (omega (arith, lt)), ap (λ j. get_or slots j false) b ∙ get_or_from_slice_get slots k s false e)

both_are : (a b : Bool) → a ≡ true → b ≡ true → (a && b) ≡ false → ⊥
both_are true true e d f = cc
both_are true false e d f = cc
both_are false b e d f = cc

pub own_of : (slots : List Bool) (own : Map) → IsOwnMap slots own → Own slots own
own_of slots own is = record {
  in_slots = λ p e s. ap (slot_of own) (sym (place_back slots p e)) ∙ is.in_slots (p - 1) (place_has slots p e ∙ ap Some s);
  at_home = λ x e. is.none_else x (λ k s h. let w = slot_par slots k true s in both_are (is_parameter slots x) (is_in_slot slots x) (ap (is_parameter slots) h ∙ w.0) (ap (is_in_slot slots) h ∙ w.1) e);
}
