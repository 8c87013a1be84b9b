-- What the grammar of rules says of the words and the ops of a rule: they name its parameters, and nothing else. This
-- project's own.
use Rattle.std.proofs.Common.{◌≡◌, ◌≢◌, ℕ, suc, ◌+◌, ◌-◌, ◌≤◌, ◌⊎◌, inl, inr, ⊎_elim, Bool, true, false, not, ◌&&◌, ◌==◌, if◌then◌else◌, max, fold, List, [], ◌∷◌, ◌++◌, length, map as list_map, slice_get, Some, Contains, refl, sym, ap, ◌∙◌, subst, arith}
use Rattle.std.specs.List.{flat_map}
use Rattle.std.proofs.Math.Nat.{le-max_left, le-max_right}
use Rattle.std.proofs.lemmas.Bool.Decides.{nat_tests}
use Rattle.std.proofs.lemmas.List.Elements.{Contains-append_left, Contains-append_right}
use Rattle.machines.specs.Prelude.{Map, HasOneInstruction, bo_0, bo_2, Instr, Immediate, LogicImmediate, CompareImmediate, Rotate, Arithmetic, ArithmeticUnary, Logic, ShiftImmediate, LogicUnary, Compare, MoveFromCr, MoveToCr, MoveFromSpr, MoveToSpr, Sync, MoveCrField, CrLogic, Isync, Load, Store, LoadUpdate, StoreUpdate, LoadIndexed, StoreIndexed, LoadIndexedUpdate, StoreIndexedUpdate, BranchConditional, Multiple, TrapImmediate, Branch, SystemCall, Trap, BranchRegister, Addi, Addis, Addic, AddicRecord, Subfic, Mulli, Rlwinm, Rlwnm, Rlwimi}
use Rattle.ppc_isa.specs.Locations.{base}
use Rattle.row_laws.proofs.Lists.{none_in, first_in, later_in, first_or_later}
use Rattle.rule_body.specs.declared.goal.Guest.{Guest}
use Rattle.rule_body.specs.Prelude.{is_plain, is_ending, numbers, AreNumbered, highest, AreGuests, IsWindow, IsPlaced}
use Rattle.rule_soundness.specs.Prelude.{Match, IsMatch, base_field, bound, filled, laid_words}
use Rattle.rule_soundness.proofs.Grammar.{row_of}
use Rattle.rule_renaming.proofs.Parameters.{par_is, place_back, place_in}
use Rattle.rule_renaming.proofs.Guests.{IsField, IsNamedWord, AreNamedWords}
use Rattle.rule_renaming.proofs.Bridge.{P}

second_in : (x y : ℕ) (zs : List ℕ) → Contains (x ∷ y ∷ zs) y
second_in x y zs = later_in x y (y ∷ zs) (first_in y zs)

third_in : (x y z : ℕ) → Contains (x ∷ y ∷ z ∷ []) z
third_in x y z = later_in x z (y ∷ z ∷ []) (second_in y z [])

unlinked : (a b c d link : Bool) → (a && b && c && d && not link) ≡ true → link ≡ false
unlinked true true true true false t = refl
unlinked true true true true true t = absurd cc
unlinked false b c d link t = absurd cc
unlinked true false c d link t = absurd cc
unlinked true true false d link t = absurd cc
unlinked true true true false link t = absurd cc

module _ (slots : List Bool) (m : Match) where
  abbrev Named : Instr → Type 0
  Named i = IsNamedWord m (P slots m) i

  -- each register field has the number of a parameter, which isn't bound to GPR 0 in the place of a base
  abbrev HasFields : Instr → Type 0
  HasFields i = (k : ℕ) → Contains (numbers i) k → P slots m k

  abbrev HasBases : Instr → Type 0
  HasBases i = (p : ℕ) → base_field i ≡ Some p → P slots m p → m.gpr p ≢ 0

  field_is : (a : ℕ) → ((k : ℕ) → Contains (base a) k → P slots m k) → (P slots m a → m.gpr a ≢ 0) → IsField m (P slots m) a
  field_is a has far = by_test (a == 0) refl
    where
      by_test : (b : Bool) → (a == 0) ≡ b → IsField m (P slots m) a
      by_test true e = inl (grind (arith, nat_tests))
      by_test false e = let p = has a (subst (λ (l : List ℕ). Contains l a) (sym (ap (λ b. if b then [] else a ∷ []) e)) (first_in a [])) in inr (p, far p)

  abbrev Kind : Instr → Type 0
  Kind i = (is_plain i ≡ true) ⊎ (is_ending i ≡ true)

  named_word : (i : Instr) → Kind i → HasFields i → HasBases i → Named i
  named_word (Immediate Addi d a imm) kind has bases = (has d (first_in d (base a)), field_is a (λ k c. has k (later_in d k (base a) c)) (bases a refl))
  named_word (Immediate Addis d a imm) kind has bases = (has d (first_in d (base a)), field_is a (λ k c. has k (later_in d k (base a) c)) (bases a refl))
  named_word (Immediate Addic d a imm) kind has bases = (has d (first_in d (a ∷ [])), has a (second_in d a []))
  named_word (Immediate AddicRecord d a imm) kind has bases = (has d (first_in d (a ∷ [])), has a (second_in d a []))
  named_word (Immediate Subfic d a imm) kind has bases = (has d (first_in d (a ∷ [])), has a (second_in d a []))
  named_word (Immediate Mulli d a imm) kind has bases = (has d (first_in d (a ∷ [])), has a (second_in d a []))
  named_word (LogicImmediate op s a imm) kind has bases = (has s (first_in s (a ∷ [])), has a (second_in s a []))
  named_word (CompareImmediate op field a imm) kind has bases = has a (first_in a [])
  named_word (Rotate Rlwnm s a by mask_begin mask_end records) kind has bases = (has s (first_in s (a ∷ by ∷ [])), has a (second_in s a (by ∷ [])), has by (third_in s a by))
  named_word (Rotate Rlwinm s a by mask_begin mask_end records) kind has bases = (has s (first_in s (a ∷ [])), has a (second_in s a []), tt)
  named_word (Rotate Rlwimi s a by mask_begin mask_end records) kind has bases = (has s (first_in s (a ∷ [])), has a (second_in s a []), tt)
  named_word (Arithmetic op d a b records) kind has bases = (has d (first_in d (a ∷ b ∷ [])), has a (second_in d a (b ∷ [])), has b (third_in d a b))
  named_word (ArithmeticUnary op d a records) kind has bases = (has d (first_in d (a ∷ [])), has a (second_in d a []))
  named_word (Logic op s a b records) kind has bases = (has s (first_in s (a ∷ b ∷ [])), has a (second_in s a (b ∷ [])), has b (third_in s a b))
  named_word (ShiftImmediate s a by records) kind has bases = (has s (first_in s (a ∷ [])), has a (second_in s a []))
  named_word (LogicUnary op s a records) kind has bases = (has s (first_in s (a ∷ [])), has a (second_in s a []))
  named_word (Compare op field a b) kind has bases = (has a (first_in a (b ∷ [])), has b (second_in a b []))
  named_word (MoveFromCr d) kind has bases = has d (first_in d [])
  named_word (MoveToCr s mask) kind has bases = has s (first_in s [])
  named_word (MoveFromSpr d spr) kind has bases = has d (first_in d [])
  named_word (MoveToSpr s spr) kind has bases = has s (first_in s [])
  named_word Sync kind has bases = tt
  named_word (MoveCrField to from) kind has bases = tt
  named_word (CrLogic op d a b) kind has bases = tt
  named_word Isync kind has bases = tt
  named_word (Load op d a imm) kind has bases = (has d (first_in d (base a)), field_is a (λ k c. has k (later_in d k (base a) c)) (bases a refl))
  named_word (Store op s a imm) kind has bases = (has s (first_in s (base a)), field_is a (λ k c. has k (later_in s k (base a) c)) (bases a refl))
  named_word (LoadUpdate op d a imm) kind has bases = (has d (first_in d (a ∷ [])), has a (second_in d a []))
  named_word (StoreUpdate op s a imm) kind has bases = (has s (first_in s (a ∷ [])), has a (second_in s a []))
  named_word (LoadIndexed op d a b) kind has bases =
      (has d (first_in d (base a ++ b ∷ [])), field_is a (λ k c. has k (later_in d k (base a ++ b ∷ []) (Contains-append_left (base a) (b ∷ []) k c))) (bases a refl), has b (later_in d b (base a ++ b ∷ []) (Contains-append_right (base a) (b ∷ []) b (first_in b []))))
  named_word (StoreIndexed op s a b) kind has bases =
      (has s (first_in s (base a ++ b ∷ [])), field_is a (λ k c. has k (later_in s k (base a ++ b ∷ []) (Contains-append_left (base a) (b ∷ []) k c))) (bases a refl), has b (later_in s b (base a ++ b ∷ []) (Contains-append_right (base a) (b ∷ []) b (first_in b []))))
  named_word (LoadIndexedUpdate op d a b) kind has bases = (has d (first_in d (a ∷ b ∷ [])), has a (second_in d a (b ∷ [])), has b (third_in d a b))
  named_word (StoreIndexedUpdate op s a b) kind has bases = (has s (first_in s (a ∷ b ∷ [])), has a (second_in s a (b ∷ [])), has b (third_in s a b))
  named_word (BranchConditional bo bi target absolute link) kind has bases = ⊎_elim (λ e. absurd cc) (λ e. unlinked (bo_0 bo == 0) (bo_2 bo == 1) (target == 0) (not absolute) link e) kind
  named_word (Multiple op d a imm) kind has bases = ⊎_elim (λ e. absurd cc) (λ e. absurd cc) kind
  named_word (TrapImmediate to a imm) kind has bases = ⊎_elim (λ e. absurd cc) (λ e. absurd cc) kind
  named_word (Branch target absolute link) kind has bases = ⊎_elim (λ e. absurd cc) (λ e. absurd cc) kind
  named_word SystemCall kind has bases = ⊎_elim (λ e. absurd cc) (λ e. absurd cc) kind
  named_word (Trap to a b) kind has bases = ⊎_elim (λ e. absurd cc) (λ e. absurd cc) kind
  named_word (BranchRegister op bo bi link) kind has bases = ⊎_elim (λ e. absurd cc) (λ e. absurd cc) kind

  -- a constant or a target changes none of that
  named_filled : (j : ℕ) (free : Bool) (i : Instr) → Named i → Named (if free then filled m j i else i)
  named_filled j false i is = is
  named_filled j true (Immediate Addi d a imm) is = is
  named_filled j true (Immediate Addis d a imm) is = is
  named_filled j true (Immediate Addic d a imm) is = is
  named_filled j true (Immediate AddicRecord d a imm) is = is
  named_filled j true (Immediate Subfic d a imm) is = is
  named_filled j true (Immediate Mulli d a imm) is = is
  named_filled j true (LogicImmediate op s a imm) is = is
  named_filled j true (CompareImmediate op field a imm) is = is
  named_filled j true (Rotate op s a by mask_begin mask_end records) is = is
  named_filled j true (Arithmetic op d a b records) is = is
  named_filled j true (ArithmeticUnary op d a records) is = is
  named_filled j true (Logic op s a b records) is = is
  named_filled j true (ShiftImmediate s a by records) is = is
  named_filled j true (LogicUnary op s a records) is = is
  named_filled j true (Compare op field a b) is = is
  named_filled j true (MoveFromCr d) is = is
  named_filled j true (MoveToCr s mask) is = is
  named_filled j true (MoveFromSpr d spr) is = is
  named_filled j true (MoveToSpr s spr) is = is
  named_filled j true Sync is = is
  named_filled j true (MoveCrField to from) is = is
  named_filled j true (CrLogic op d a b) is = is
  named_filled j true Isync is = is
  named_filled j true (Load op d a imm) is = is
  named_filled j true (Store op s a imm) is = is
  named_filled j true (LoadUpdate op d a imm) is = is
  named_filled j true (StoreUpdate op s a imm) is = is
  named_filled j true (LoadIndexed op d a b) is = is
  named_filled j true (StoreIndexed op s a b) is = is
  named_filled j true (LoadIndexedUpdate op d a b) is = is
  named_filled j true (StoreIndexedUpdate op s a b) is = is
  named_filled j true (BranchConditional bo bi target absolute link) is = is
  named_filled j true _ is = absurd is

  -- the words over parameters, with their constants and the target
  unfoldable pub filled_words : ℕ → List Guest → List Instr → List Instr
  filled_words j (guest ∷ guests) (i ∷ is) = (if guest.free then filled m j i else i) ∷ filled_words (j + 1) guests is
  filled_words j guests is = []

  pub laid_are : (j : ℕ) (guests : List Guest) (words : List Instr) → laid_words m j guests words ≡ list_map (bound m.gpr) (filled_words j guests words)
  unfolding laid_words filled_words
  laid_are j [] words = refl
  laid_are j (g ∷ gs) [] = refl
  laid_are j (g ∷ gs) (i ∷ is) = ap (λ l. bound m.gpr (if g.free then filled m j i else i) ∷ l) (laid_are (j + 1) gs is)

  kind_of : (i : Instr) (free : Bool) → (is_plain i ≡ true) ⊎ ((is_ending i ≡ true) × (free ≡ true)) → Kind i
  kind_of i free (inl e) = inl e
  kind_of i free (inr e) = inr e.0

  named_words_of : (j : ℕ) (guests : List Guest) (words : List Instr) → AreGuests guests words → ((k : ℕ) → Contains (flat_map numbers words) k → P slots m k) → ((n : ℕ) (i : Instr) → slice_get words n ≡ Some i → HasBases i) → AreNamedWords m (P slots m) (filled_words j guests words)
  unfolding filled_words
  named_words_of j [] [] are has bases = tt
  named_words_of j [] (i ∷ is) are has bases = absurd are
  named_words_of j (g ∷ gs) [] are has bases = absurd are
  named_words_of j (g ∷ gs) (i ∷ is) are has bases = (
    named_filled j g.free i (named_word i (kind_of i g.free (row_of g i are.0)) (λ k c. has k (Contains-append_left (numbers i) (flat_map numbers is) k c)) (bases 0 i refl)),
    named_words_of (j + 1) gs is are.1 (λ k c. has k (Contains-append_right (numbers i) (flat_map numbers is) k c)) (λ n h e. bases (suc n) h e),
  )

-- the numbers of parameters
from_one : (seen : ℕ) (ks : List ℕ) → AreNumbered seen ks → (k : ℕ) → Contains ks k → 1 ≤ k
from_one seen [] are k c = none_in k c
from_one seen (x ∷ xs) are k c = ⊎_elim (λ e. subst (λ y. 1 ≤ y) e are.0) (λ l. from_one (max seen x) xs are.3 k l) (first_or_later x xs k c)

up_from : (a : ℕ) (ks : List ℕ) → a ≤ fold max a ks
up_from a [] = omega arith
up_from a (x ∷ xs) = let p = le-max_left a x in let q = up_from (max a x) xs in omega (arith, p, q)

up_to : (a : ℕ) (ks : List ℕ) (k : ℕ) → Contains ks k → k ≤ fold max a ks
up_to a [] k c = none_in k c
up_to a (x ∷ xs) k c = ⊎_elim (λ e. let p = le-max_right a x in let q = up_from (max a x) xs in subst (λ y. y ≤ fold max (max a x) xs) e (omega (arith, p, q))) (λ l. up_to (max a x) xs k l) (first_or_later x xs k c)

-- a goal has one window
one_window : ((w : ℕ) → HasOneInstruction w) → (guests : List Guest) (a b : List Instr) → AreGuests guests a → AreGuests guests b → a ≡ b
one_window one [] [] [] p q = refl
one_window one [] [] (j ∷ b) p q = absurd q
one_window one [] (i ∷ a) b p q = absurd p
one_window one (g ∷ gs) [] b p q = absurd p
one_window one (g ∷ gs) (i ∷ a) [] p q = absurd q
one_window one (g ∷ gs) (i ∷ a) (j ∷ b) p q = ap (λ x. x ∷ a) (one g.word i j p.0.word q.0.word) ∙ ap (λ x. j ∷ x) (one_window one gs a b p.1 q.1)

-- the words of a rule name parameters, where none in the place of a base is bound to GPR 0
pub words_named_by : ((w : ℕ) → HasOneInstruction w) → (guests : List Guest) (slots : List Bool) (words : List Instr) (m : Match) → IsPlaced guests slots → IsWindow guests words →
    ((n : ℕ) (i : Instr) → slice_get words n ≡ Some i → (p : ℕ) → base_field i ≡ Some p → P slots m p → m.gpr p ≢ 0) → AreNamedWords m (P slots m) (filled_words slots m 0 guests words)
words_named_by one guests slots words m placed window bases =
    let same = one_window one guests placed.window words placed.is.words window.words in
    let count : length slots ≡ highest (flat_map numbers words) = placed.parameters ∙ ap (λ w. highest (flat_map numbers w)) same in
    named_words_of slots m 0 guests words window.words
    (λ k c. par_is slots k (from_one 0 (flat_map numbers words) window.numbered k c) (subst (λ n. k ≤ n) (sym count) (up_to 0 (flat_map numbers words) k c)))
    bases

-- the words of a rule at a match name parameters
pub words_named : ((w : ℕ) → HasOneInstruction w) → (guests : List Guest) (slots : List Bool) (words : List Instr) (map : Map) (m : Match) → IsPlaced guests slots → IsWindow guests words → IsMatch slots words map m → AreNamedWords m (P slots m) (filled_words slots m 0 guests words)
words_named one guests slots words map m placed window fits =
    words_named_by one guests slots words m placed window
    (λ n i e p f is. subst (λ q. m.gpr q ≢ 0) (place_back slots p is) (fits.bases (p - 1) n i e (place_in slots p is) (f ∙ ap Some (sym (place_back slots p is)))))
