-- A general register that a word of a window writes is among the numbers of the word. This project's own.
use Rattle.std.proofs.Common.{◌≡◌, ℕ, ◌+◌, ◌/◌, ◌<◌, ◌≤◌, ⊎_elim, ◌==◌, if◌then◌else◌, Bool, true, false, List, [], ◌∷◌, ◌++◌, Contains, ◌∙◌, arith}
use Rattle.std.specs.List.{flat_map}
use Rattle.std.proofs.lemmas.List.Elements.{Contains-append_cases}
use Rattle.machines.specs.Prelude.{when, special, count, chosen_fields, immediate_carries, immediate_records, logic_immediate_records, carry_out, unary_carry, logic_carries, locations_written, Instr, Immediate, LogicImmediate, CompareImmediate, Rotate, Arithmetic, ArithmeticUnary, Logic, ShiftImmediate, LogicUnary, Compare, MoveFromCr, MoveToCr, MoveFromSpr, MoveToSpr, MoveCrField, CrLogic, Load, LoadUpdate, StoreUpdate, LoadIndexed, LoadIndexedUpdate, StoreIndexedUpdate, Multiple, Branch, BranchConditional, BranchRegister, SystemCall, Rlwnm, Rlwinm, Rlwimi}
use Rattle.row_laws.proofs.Lists.{none_in, first_or_later, in_chosen}
use Rattle.rule_body.specs.declared.goal.Guest.{Guest}
use Rattle.rule_body.specs.Prelude.{numbers, AreGuests}
use Rattle.rule_match.proofs.FieldNumbers.{is_among, MayStand, equal_number, or_left, or_right, among_append}
use Rattle.rule_match.proofs.Windows.{may_stand}

-- no general register is in the list
abbrev IsFar : List ℕ → Type 0
IsFar xs = (x : ℕ) → Contains xs x → 32 ≤ x

far_none : IsFar []
far_none x c = none_in x c

far_one : (k : ℕ) (xs : List ℕ) → 32 ≤ k → IsFar xs → IsFar (k ∷ xs)
far_one k xs ge far x c = ⊎_elim (λ e. omega (arith, e, ge)) (λ l. far x l) (first_or_later k xs x c)

far_when : (b : Bool) (k : ℕ) → 32 ≤ k → IsFar (when b k)
far_when true k ge = far_one k [] ge far_none
far_when false k ge = far_none

far_both : (xs ys : List ℕ) → IsFar xs → IsFar ys → IsFar (xs ++ ys)
far_both xs ys p q x c = ⊎_elim (p x) (q x) (Contains-append_cases xs ys x c)

far_two : (b d : Bool) → IsFar (when b 42 ++ when d 34)
far_two b d = far_both (when b 42) (when d 34) (far_when b 42 (omega arith)) (far_when d 34 (omega arith))

far_special : (spr : ℕ) → IsFar (special spr)
far_special spr = by_tests (spr == 1) (spr == 8) (spr == 9)
  where
    by_tests : (b d e : Bool) → IsFar (if b then 42 ∷ 43 ∷ 44 ∷ 45 ∷ [] else if d then 32 ∷ [] else if e then 33 ∷ [] else [])
    by_tests true d e = far_one 42 (43 ∷ 44 ∷ 45 ∷ []) (omega arith) (far_one 43 (44 ∷ 45 ∷ []) (omega arith) (far_one 44 (45 ∷ []) (omega arith) (far_one 45 [] (omega arith) far_none)))
    by_tests false true e = far_one 32 [] (omega arith) far_none
    by_tests false false true = far_one 33 [] (omega arith) far_none
    by_tests false false false = far_none

-- a general register among such
module _ (p : ℕ) (low : p < 32) where
  beyond : {X : Type 0} (xs : List ℕ) → IsFar xs → Contains xs p → X
  beyond xs far c = let ge = far p c in absurd (omega (arith, ge, low))

  first : (y : ℕ) (xs : List ℕ) → IsFar xs → Contains (y ∷ xs) p → (y == p) ≡ true
  first y xs far c = ⊎_elim (λ e. equal_number y p e) (λ l. beyond xs far l) (first_or_later y xs p c)

  in_first : (y : ℕ) (xs ks : List ℕ) → IsFar xs → Contains (y ∷ xs) p → is_among p (y ∷ ks) ≡ true
  in_first y xs ks far c = or_left (y == p) (is_among p ks) (first y xs far c)

  in_second : (s y : ℕ) (xs ks : List ℕ) → IsFar xs → Contains (y ∷ xs) p → is_among p (s ∷ y ∷ ks) ≡ true
  in_second s y xs ks far c = or_right (s == p) (is_among p (y ∷ ks)) (in_first y xs ks far c)

  in_both : (d a : ℕ) (ks : List ℕ) → Contains (d ∷ a ∷ []) p → is_among p (d ∷ a ∷ ks) ≡ true
  in_both d a ks c = ⊎_elim (λ e. or_left (d == p) (is_among p (a ∷ ks)) (equal_number d p e)) (λ l. in_second d a [] ks far_none l) (first_or_later d (a ∷ []) p c)

  pub written_number : (i : Instr) → MayStand i → Contains (locations_written i) p → is_among p (numbers i) ≡ true
  written_number (Immediate op d a imm) may c = in_first d (when (immediate_carries op) 42 ++ when (immediate_records op) 34) _ (far_two (immediate_carries op) (immediate_records op)) c
  written_number (LogicImmediate op s a imm) may c = in_second s a (when (logic_immediate_records op) 34) [] (far_when (logic_immediate_records op) 34 (omega arith)) c
  written_number (CompareImmediate op field a imm) may c = beyond ((34 + field) ∷ []) (far_one (34 + field) [] (omega arith) far_none) c
  written_number (Rotate Rlwnm s a by mask_begin mask_end records) may c = in_second s a (when records 34) (by ∷ []) (far_when records 34 (omega arith)) c
  written_number (Rotate Rlwinm s a by mask_begin mask_end records) may c = in_second s a (when records 34) [] (far_when records 34 (omega arith)) c
  written_number (Rotate Rlwimi s a by mask_begin mask_end records) may c = in_second s a (when records 34) [] (far_when records 34 (omega arith)) c
  written_number (Arithmetic op d a b records) may c = in_first d (when (carry_out op) 42 ++ when records 34) (a ∷ b ∷ []) (far_two (carry_out op) records) c
  written_number (ArithmeticUnary op d a records) may c = in_first d (when (unary_carry op) 42 ++ when records 34) (a ∷ []) (far_two (unary_carry op) records) c
  written_number (Logic op s a b records) may c = in_second s a (when (logic_carries op) 42 ++ when records 34) (b ∷ []) (far_two (logic_carries op) records) c
  written_number (ShiftImmediate s a by records) may c = in_second s a (42 ∷ when records 34) [] (far_one 42 (when records 34) (omega arith) (far_when records 34 (omega arith))) c
  written_number (LogicUnary op s a records) may c = in_second s a (when records 34) [] (far_when records 34 (omega arith)) c
  written_number (Compare op field a b) may c = beyond ((34 + field) ∷ []) (far_one (34 + field) [] (omega arith) far_none) c
  written_number (MoveFromCr d) may c = in_first d [] [] far_none c
  written_number (MoveToCr s mask) may c = beyond (chosen_fields mask) (λ x l. let w = in_chosen mask x l in let e = w.2 in omega (arith, e)) c
  written_number (MoveFromSpr d spr) may c = in_first d [] [] far_none c
  written_number (MoveToSpr s spr) may c = beyond (special spr) (far_special spr) c
  written_number (MoveCrField to from) may c = beyond ((34 + to) ∷ []) (far_one (34 + to) [] (omega arith) far_none) c
  written_number (CrLogic op d a b) may c = beyond ((34 + d / 4) ∷ []) (far_one (34 + d / 4) [] (omega arith) far_none) c
  written_number (Load op d a imm) may c = in_first d [] _ far_none c
  written_number (LoadUpdate op d a imm) may c = in_both d a [] c
  written_number (StoreUpdate op s a imm) may c = in_second s a [] [] far_none c
  written_number (LoadIndexed op d a b) may c = in_first d [] _ far_none c
  written_number (LoadIndexedUpdate op d a b) may c = in_both d a (b ∷ []) c
  written_number (StoreIndexedUpdate op s a b) may c = in_second s a [] (b ∷ []) far_none c
  written_number (Multiple op d a imm) may c = ⊎_elim (λ e. absurd cc) (λ e. absurd cc) may
  written_number (Branch target absolute link) may c = ⊎_elim (λ e. absurd cc) (λ e. absurd cc) may
  written_number SystemCall may c = ⊎_elim (λ e. absurd cc) (λ e. absurd cc) may
  written_number (BranchConditional bo bi target absolute link) may c =
      beyond (count bo ++ when link 32) (far_both (count bo) (when link 32) (far_when _ 33 (omega arith)) (far_when link 32 (omega arith))) c
  written_number (BranchRegister op bo bi link) may c = ⊎_elim (λ e. absurd cc) (λ e. absurd cc) may
  written_number _ may c = none_in p c

  pub written_numbers : (gs : List Guest) (is : List Instr) → AreGuests gs is → Contains (flat_map locations_written is) p → is_among p (flat_map numbers is) ≡ true
  written_numbers [] [] are c = none_in p c
  written_numbers [] (i ∷ is) are c = absurd are
  written_numbers (g ∷ gs) [] are c = absurd are
  written_numbers (g ∷ gs) (i ∷ is) are c =
      among_append p (numbers i) (flat_map numbers is)
      ∙ ⊎_elim (λ h. or_left (is_among p (numbers i)) (is_among p (flat_map numbers is)) (written_number i (may_stand g i are.0) h))
      (λ t. or_right (is_among p (numbers i)) (is_among p (flat_map numbers is)) (written_numbers gs is are.1 t)) (Contains-append_cases (locations_written i) (flat_map locations_written is) p c)
