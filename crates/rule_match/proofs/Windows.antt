-- The words of a rule where it is laid, one by one. This project's own.
use Rattle.std.proofs.Common.{◌≡◌, ◌≢◌, ℕ, zero, suc, ◌+◌, ◌<◌, ◌≤◌, ◌^◌, ◌⊎◌, inl, inr, ⊎_elim, ◌==◌, ◌||◌, if◌then◌else◌, Bool, true, false, List, [], ◌∷◌, ◌++◌, drop, length, slice_get, Some, None, option_map, refl, sym, ap, ◌∙◌, subst, arith}
use Rattle.std.specs.List.{flat_map}
use Rattle.std.proofs.Math.ListN.{drop_of_length-le}
use Rattle.machines.specs.Prelude.{IsWordOf, HasOneInstruction, Instr, Immediate, LogicImmediate, CompareImmediate, Load, Store, LoadUpdate, StoreUpdate, BranchConditional}
use Rattle.reg_map.specs.Prelude.{holds}
use Rattle.rule_body.specs.declared.goal.Guest.{Guest}
use Rattle.rule_body.specs.Prelude.{is_plain, is_ending, numbers, IsGuest, AreGuests, AreStraight}
use Rattle.rule_soundness.specs.Prelude.{Match, base_field, register_field, bound, filled, laid_words, AreWordsOf}
use Rattle.rule_soundness.specs.LaidWords.{laid_word}
use Rattle.rule_soundness.specs.Fields.{s_field, a_field, b_field}
use Rattle.rule_soundness.proofs.Grammar.{row_of}
use Rattle.rule_match.specs.declared.binding.Binding.{Binding}
use Rattle.rule_match.specs.Bindings.{constant_of, constant_at, target_field, is_absolute, last_target, last_absolute, gpr_of, match_of}
use Rattle.rule_match.specs.Matching.{match_of_word, IsLaidWord, AreLaidWords, register_in, or_else, register_read}
use Rattle.rule_match.proofs.LaidInstr.{SameFields, bound_same, same_filled, filled_bound_s, filled_bound_a, filled_bound_b, filled_again, constant_fits}
use Rattle.rule_match.proofs.FieldNumbers.{is_among, has_field, MayStand, same_number, among_append, fields_are, s_bound, a_bound, b_bound, first_field}

pub none_or_some : {A : Type 0} (x : A) → None ≡ Some x → ⊥
none_or_some x e = cc

pub same_some : {A : Type 0} (x y : A) → Some x ≡ Some y → x ≡ y
same_some x y e = cc

pub may_stand : (g : Guest) (i : Instr) → IsGuest g i → MayStand i
may_stand g i is = ⊎_elim (λ e. inl e) (λ e. inr e.0) (row_of g i is)

pub one_window : ((w : ℕ) → HasOneInstruction w) → (guests : List Guest) (a b : List Instr) → AreGuests guests a → AreGuests guests b → a ≡ b
one_window one [] [] [] p q = refl
one_window one [] [] (j ∷ b) p q = absurd q
one_window one [] (i ∷ a) b p q = absurd p
one_window one (g ∷ gs) [] b p q = absurd p
one_window one (g ∷ gs) (i ∷ a) [] p q = absurd q
one_window one (g ∷ gs) (i ∷ a) (j ∷ b) p q = ap (λ x. x ∷ a) (one g.word i j p.0.word q.0.word) ∙ ap (λ x. j ∷ x) (one_window one gs a b p.1 q.1)

-- words of a rule by their places
pub laid_at : (b : Binding) (gs : List Guest) (ws : List ℕ) → AreLaidWords b gs ws → (k : ℕ) (g : Guest) (w : ℕ) → slice_get gs k ≡ Some g → slice_get ws k ≡ Some w → IsLaidWord b g w
laid_at b [] [] are k g w e d = absurd cc
laid_at b [] (x ∷ ws) are k g w e d = absurd are
laid_at b (h ∷ gs) [] are k g w e d = absurd are
laid_at b (h ∷ gs) (x ∷ ws) are zero g w e d =
    let s : h ≡ g = cc in let t : x ≡ w = cc in subst (λ y. IsLaidWord b g y) t (subst (λ y. IsLaidWord b y x) s are.0)
laid_at b (h ∷ gs) (x ∷ ws) are (suc k) g w e d = laid_at b gs ws are.1 k g w e d

pub laid_all : (b : Binding) (gs : List Guest) (ws : List ℕ) → length gs ≡ length ws → ((k : ℕ) (g : Guest) (w : ℕ) → slice_get gs k ≡ Some g → slice_get ws k ≡ Some w → IsLaidWord b g w) → AreLaidWords b gs ws
laid_all b [] [] same each = tt
laid_all b [] (x ∷ ws) same each = absurd (omega (arith, same))
laid_all b (h ∷ gs) [] same each = absurd (omega (arith, same))
laid_all b (h ∷ gs) (x ∷ ws) same each = (each 0 h x refl refl, laid_all b gs ws (omega (arith, same)) (λ k g w e d. each (suc k) g w e d))

pub guest_lengths : (gs : List Guest) (is : List Instr) → AreGuests gs is → length gs ≡ length is
guest_lengths [] [] are = refl
guest_lengths [] (i ∷ is) are = absurd are
guest_lengths (g ∷ gs) [] are = absurd are
guest_lengths (g ∷ gs) (i ∷ is) are = let f = guest_lengths gs is are.1 in omega (arith, f)

pub word_lengths : (ws : List ℕ) (is : List Instr) → AreWordsOf ws is → length ws ≡ length is
word_lengths [] [] are = refl
word_lengths [] (i ∷ is) are = absurd are
word_lengths (g ∷ gs) [] are = absurd are
word_lengths (g ∷ gs) (i ∷ is) are = let f = word_lengths gs is are.1 in omega (arith, f)

pub laid_lengths : (m : Match) (j : ℕ) (gs : List Guest) (is : List Instr) → AreGuests gs is → length (laid_words m j gs is) ≡ length gs
unfolding laid_words
laid_lengths m j [] [] are = refl
laid_lengths m j [] (i ∷ is) are = absurd are
laid_lengths m j (g ∷ gs) [] are = absurd are
laid_lengths m j (g ∷ gs) (i ∷ is) are = let f = laid_lengths m (j + 1) gs is are.1 in omega (arith, f)

pub constants_fit : (ws : List ℕ) (is : List Instr) → AreWordsOf ws is → (j : ℕ) → constant_at is j < 2 ^ 16
constants_fit ws [] are j = omega arith
constants_fit [] (i ∷ is) are j = absurd are
constants_fit (w ∷ ws) (i ∷ is) are zero = constant_fits i are.0.legal.fit
constants_fit (w ∷ ws) (i ∷ is) are (suc j) = constants_fit ws is are.1 j

-- with the same constant, and the same target where it is a branch
filled_same : (m n : Match) (j k : ℕ) (i : Instr) → m.constant j ≡ n.constant k → (is_plain i ≡ false → (m.target ≡ n.target) × (m.absolute ≡ n.absolute)) → filled m j i ≡ filled n k i
filled_same m n j k (Immediate op d a imm) c t = ap (λ x. Immediate op d a x) c
filled_same m n j k (LogicImmediate op s a imm) c t = ap (λ x. LogicImmediate op s a x) c
filled_same m n j k (Load op d a imm) c t = ap (λ x. Load op d a x) c
filled_same m n j k (Store op s a imm) c t = ap (λ x. Store op s a x) c
filled_same m n j k (LoadUpdate op d a imm) c t = ap (λ x. LoadUpdate op d a x) c
filled_same m n j k (StoreUpdate op s a imm) c t = ap (λ x. StoreUpdate op s a x) c
filled_same m n j k (CompareImmediate op field a imm) c t = ap (λ x. CompareImmediate op field a x) c
filled_same m n j k (BranchConditional bo bi target absolute link) c t = ap (λ x. BranchConditional bo bi x m.absolute link) (t refl).0 ∙ ap (λ x. BranchConditional bo bi n.target x link) (t refl).1
filled_same m n j k _ c t = refl

open_same : (m n : Match) (j k : ℕ) (free : Bool) (i : Instr) → m.constant j ≡ n.constant k → (is_plain i ≡ false → (m.target ≡ n.target) × (m.absolute ≡ n.absolute)) → (if free then filled m j i else i) ≡ (if free then filled n k i else i)
open_same m n j k true i c t = filled_same m n j k i c t
open_same m n j k false i c t = refl

-- each word by itself
abbrev pub AreSame : Binding → List Guest → List Instr → List Instr → Type 0
AreSame b [] [] [] = Unit {0}
AreSame b (g ∷ gs) (i ∷ is) (f ∷ fs) = (laid_word (match_of_word f b) 0 g i ≡ f) × AreSame b gs is fs
AreSame b _ _ _ = ⊥

not_both : (x : Bool) → x ≡ true → x ≡ false → ⊥
not_both true e d = cc
not_both false e d = cc

plain_unless : (g : Guest) (i : Instr) → IsGuest g i → is_ending i ≡ false → is_plain i ≡ true
plain_unless g i is e = ⊎_elim (λ p. p) (λ q. absurd (not_both (is_ending i) q.0 e)) (row_of g i is)

module _ (b : Binding) (whole : List Instr) where
  word_whole : (j : ℕ) (g : Guest) (i f : Instr) → constant_at whole j ≡ constant_of f → (is_plain i ≡ false → (last_target whole ≡ target_field f) × (last_absolute whole ≡ is_absolute f)) →
      laid_word (match_of whole b) j g i ≡ laid_word (match_of_word f b) 0 g i
  word_whole j g i f c t = ap (bound (gpr_of b)) (open_same (match_of whole b) (match_of_word f b) j 0 g.free i c t)

  -- words that are laid each by itself are laid together
  pub laid_whole : (j : ℕ) (gs : List Guest) (is fs : List Instr) → AreGuests gs is → AreStraight is → AreSame b gs is fs →
      ((k : ℕ) → constant_at whole (j + k) ≡ constant_at fs k) → last_target whole ≡ last_target fs → last_absolute whole ≡ last_absolute fs → laid_words (match_of whole b) j gs is ≡ fs
  unfolding laid_words last_target last_absolute
  laid_whole j [] [] [] are straight same c t a = refl
  laid_whole j [] [] (f ∷ fs) are straight same c t a = absurd same
  laid_whole j [] (i ∷ is) fs are straight same c t a = absurd are
  laid_whole j (g ∷ gs) [] fs are straight same c t a = absurd are
  laid_whole j (g ∷ gs) (i ∷ is) [] are straight same c t a = absurd same
  laid_whole j (g ∷ []) (i ∷ []) (f ∷ []) are straight same c t a =
      ap (λ x. x ∷ []) (word_whole j g i f (ap (constant_at whole) (omega arith) ∙ c 0) (λ p. (t, a)) ∙ same.0)
  laid_whole j (g ∷ []) (i ∷ []) (f ∷ f' ∷ fs) are straight same c t a = absurd same.1
  laid_whole j (g ∷ g' ∷ gs) (i ∷ []) (f ∷ fs) are straight same c t a = absurd are.1
  laid_whole j (g ∷ []) (i ∷ i' ∷ is) (f ∷ fs) are straight same c t a = absurd are.1
  laid_whole j (g ∷ g' ∷ gs) (i ∷ i' ∷ is) (f ∷ []) are straight same c t a = absurd same.1
  laid_whole j (g ∷ g' ∷ gs) (i ∷ i' ∷ is) (f ∷ f' ∷ fs) are straight same c t a =
      let first = word_whole j g i f (ap (constant_at whole) (omega arith) ∙ c 0) (λ p. absurd (not_both (is_plain i) (plain_unless g i are.0 straight.0) p)) ∙ same.0 in
      ap (λ x. x ∷ laid_words (match_of whole b) (j + 1) (g' ∷ gs) (i' ∷ is)) first
      ∙ ap (λ x. f ∷ x) (laid_whole (j + 1) (g' ∷ gs) (i' ∷ is) (f' ∷ fs) are.1 straight.1 same.1 (λ k. ap (constant_at whole) (omega arith) ∙ c (suc k)) t a)

-- from words of memory to their instructions
pub record Found (b : Binding) (gs : List Guest) (is : List Instr) (ws : List ℕ) : Type 0 where
  pub found : List Instr
  pub are : AreWordsOf ws found
  pub same : AreSame b gs is found
  pub bases : (j : ℕ) (i : Instr) (p : ℕ) → slice_get is j ≡ Some i → base_field i ≡ Some p → p ≢ 0 → gpr_of b p ≢ 0

pub found_of : ((w : ℕ) → HasOneInstruction w) → (b : Binding) (gs : List Guest) (is : List Instr) (ws : List ℕ) → AreGuests gs is → AreLaidWords b gs ws → Found b gs is ws
found_of one b [] [] [] are laid = record { found = []; are = tt; same = tt; bases = λ j i p e. absurd cc }
found_of one b [] [] (w ∷ ws) are laid = absurd laid
found_of one b [] (i ∷ is) ws are laid = absurd are
found_of one b (g ∷ gs) [] ws are laid = absurd are
found_of one b (g ∷ gs) (i ∷ is) [] are laid = absurd laid
found_of one b (g ∷ gs) (i ∷ is) (w ∷ ws) are laid =
    let rest = found_of one b gs is ws are.1 laid.1 in
    let e : laid.0.word ≡ i = one g.word laid.0.word i laid.0.of_rule are.0.word in
    record {
      found = laid.0.found ∷ rest.found;
      are = (laid.0.of_memory, rest.are);
      same = (subst (λ x. laid_word (match_of_word laid.0.found b) 0 g x ≡ laid.0.found) e laid.0.same, rest.same);
      bases = λ j h p. by_place j h p (subst (λ x. (p : ℕ) → base_field x ≡ Some p → p ≢ 0 → gpr_of b p ≢ 0) e laid.0.base) rest.bases;
    }
  where
    by_place : (j : ℕ) (h : Instr) (p : ℕ) → ((p : ℕ) → base_field i ≡ Some p → p ≢ 0 → gpr_of b p ≢ 0) → ((j : ℕ) (i : Instr) (p : ℕ) → slice_get is j ≡ Some i → base_field i ≡ Some p → p ≢ 0 → gpr_of b p ≢ 0)
        → slice_get (i ∷ is) j ≡ Some h → base_field h ≡ Some p → p ≢ 0 → gpr_of b p ≢ 0
    by_place zero h p first rest e = let s : i ≡ h = cc in subst (λ x. base_field x ≡ Some p → p ≢ 0 → gpr_of b p ≢ 0) s (first p)
    by_place (suc j) h p first rest e = rest j h p e

-- A word laid at a match is laid by itself under a binding with the same registers in its fields.
module _ (m : Match) (b : Binding) where
  itself : (j : ℕ) (free : Bool) (i f : Instr) → SameFields m.gpr (gpr_of b) i → bound m.gpr (if free then filled m j i else i) ≡ f → bound (gpr_of b) (if free then filled (match_of_word f b) 0 i else i) ≡ f
  itself j false i f same e = sym (bound_same m.gpr (gpr_of b) i same) ∙ e
  itself j true i f same e =
      let again = filled_again m (match_of_word f b) m.gpr j 0 i (ap constant_of (sym e)) (ap target_field (sym e)) (ap is_absolute (sym e)) in
      ap (bound (gpr_of b)) again ∙ sym (bound_same m.gpr (gpr_of b) (filled m j i) (same_filled m j m.gpr (gpr_of b) i same)) ∙ e

  -- what a word of a rule asks of the binding
  pub record Fits (i : Instr) : Type 0 where
    pub fields : SameFields m.gpr (gpr_of b) i
    pub base : (p : ℕ) → base_field i ≡ Some p → p ≢ 0 → gpr_of b p ≢ 0

  pub laid_split : (j : ℕ) (gs : List Guest) (is fs : List Instr) (ws : List ℕ) → AreGuests gs is → AreWordsOf ws fs → laid_words m j gs is ≡ fs → ((n : ℕ) (i : Instr) → slice_get is n ≡ Some i → Fits i) → AreLaidWords b gs ws
  unfolding laid_words
  laid_split j [] [] [] [] are words e fits = tt
  laid_split j [] [] [] (w ∷ ws) are words e fits = absurd words
  laid_split j [] [] (f ∷ fs) ws are words e fits = absurd cc
  laid_split j [] (i ∷ is) fs ws are words e fits = absurd are
  laid_split j (g ∷ gs) [] fs ws are words e fits = absurd are
  laid_split j (g ∷ gs) (i ∷ is) [] ws are words e fits = absurd cc
  laid_split j (g ∷ gs) (i ∷ is) (f ∷ fs) [] are words e fits = absurd words
  laid_split j (g ∷ gs) (i ∷ is) (f ∷ fs) (w ∷ ws) are words e fits =
      let h : laid_word m j g i ≡ f = cc in
      let t : laid_words m (j + 1) gs is ≡ fs = cc in
      let fit = fits 0 i refl in (
        record { word = i; found = f; of_rule = are.0.word; of_memory = words.0; same = itself j g.free i f fit.fields h; base = fit.base },
        laid_split (j + 1) gs is fs ws are.1 words.1 t (λ n x d. fits (suc n) x d),
      )

-- What is read of the words is the register of the match.
module _ (m : Match) (p : ℕ) (some : p ≢ 0) where
  register_is : register_field m.gpr p ≡ m.gpr p
  register_is = by_test (p == 0) refl
    where
      by_test : (t : Bool) → (p == 0) ≡ t → (if t then 0 else m.gpr p) ≡ m.gpr p
      by_test true e = absurd (some (same_number p 0 e))
      by_test false e = refl

  read_one : (j : ℕ) (free : Bool) (i f : Instr) → MayStand i → bound m.gpr (if free then filled m j i else i) ≡ f → register_in i f p ≡ (if has_field i p then Some (register_field m.gpr p) else None)
  read_one j free i f may e =
      ap (λ x. register_in i x p) (sym e) ∙ by_free free
    where
      by_free : (free : Bool) → register_in i (bound m.gpr (if free then filled m j i else i)) p ≡ (if has_field i p then Some (register_field m.gpr p) else None)
      by_free false =
          ap (λ x. if holds (s_field i) p then x else if holds (a_field i) p then a_field (bound m.gpr i) else if holds (b_field i) p then b_field (bound m.gpr i) else None) (s_bound m.gpr i may)
          ∙ ap (λ x. if holds (s_field i) p then option_map (register_field m.gpr) (s_field i) else if holds (a_field i) p then x else if holds (b_field i) p then b_field (bound m.gpr i) else None) (a_bound m.gpr i may)
          ∙ ap (λ x. if holds (s_field i) p then option_map (register_field m.gpr) (s_field i) else if holds (a_field i) p then option_map (register_field m.gpr) (a_field i) else if holds (b_field i) p then x else None) (b_bound m.gpr i may)
          ∙ first_field (register_field m.gpr) p (s_field i) (a_field i) (b_field i)
      by_free true =
          ap (λ x. if holds (s_field i) p then x else if holds (a_field i) p then a_field (bound m.gpr (filled m j i)) else if holds (b_field i) p then b_field (bound m.gpr (filled m j i)) else None) (filled_bound_s m j m.gpr i ∙ s_bound m.gpr i may)
          ∙ ap (λ x. if holds (s_field i) p then option_map (register_field m.gpr) (s_field i) else if holds (a_field i) p then x else if holds (b_field i) p then b_field (bound m.gpr (filled m j i)) else None) (filled_bound_a m j m.gpr i ∙ a_bound m.gpr i may)
          ∙ ap (λ x. if holds (s_field i) p then option_map (register_field m.gpr) (s_field i) else if holds (a_field i) p then option_map (register_field m.gpr) (a_field i) else if holds (b_field i) p then x else None) (filled_bound_b m j m.gpr i ∙ b_bound m.gpr i may)
          ∙ first_field (register_field m.gpr) p (s_field i) (a_field i) (b_field i)

  pub read_laid : (j : ℕ) (gs : List Guest) (is fs : List Instr) → AreGuests gs is → laid_words m j gs is ≡ fs → is_among p (flat_map numbers is) ≡ true → register_read is fs p ≡ m.gpr p
  unfolding laid_words
  read_laid j [] [] fs are e among = absurd cc
  read_laid j [] (i ∷ is) fs are e among = absurd are
  read_laid j (g ∷ gs) [] fs are e among = absurd are
  read_laid j (g ∷ gs) (i ∷ is) [] are e among = absurd cc
  read_laid j (g ∷ gs) (i ∷ is) (f ∷ fs) are e among =
      let h : laid_word m j g i ≡ f = cc in
      let t : laid_words m (j + 1) gs is ≡ fs = cc in
      let may = may_stand g i are.0 in
      by_field (has_field i p) refl (read_one j g.free i f may h) (λ rest. read_laid (j + 1) gs is fs are.1 t rest)
      (sym (ap (λ x. x || is_among p (flat_map numbers is)) (fields_are i p may some)) ∙ sym (among_append p (numbers i) (flat_map numbers is)) ∙ among)
    where
      by_field : (x : Bool) → has_field i p ≡ x → register_in i f p ≡ (if has_field i p then Some (register_field m.gpr p) else None) → (is_among p (flat_map numbers is) ≡ true → register_read is fs p ≡ m.gpr p) → (has_field i p || is_among p (flat_map numbers is)) ≡ true
          → or_else (register_in i f p) (register_read is fs p) ≡ m.gpr p
      by_field true e one rest has = ap (λ r. or_else r (register_read is fs p)) (one ∙ ap (λ x. if x then Some (register_field m.gpr p) else None) e) ∙ register_is
      by_field false e one rest has =
          ap (λ r. or_else r (register_read is fs p)) (one ∙ ap (λ x. if x then Some (register_field m.gpr p) else None) e) ∙ rest (sym (ap (λ x. x || is_among p (flat_map numbers is)) e) ∙ has)

-- What is read goes on behind a word.
pub record Step (p : ℕ) (g : Guest) (w : ℕ) (is fs : List Instr) (k : ℕ) : Type 0 where
  pub word : Instr
  pub found : Instr
  pub of_rule : IsWordOf g.word word
  pub of_memory : IsWordOf w found
  pub reads : register_read (drop k is) (drop k fs) p ≡ or_else (register_in word found p) (register_read (drop (k + 1) is) (drop (k + 1) fs) p)

pub read_step : (p : ℕ) (gs : List Guest) (ws : List ℕ) (is fs : List Instr) (k : ℕ) (g : Guest) (w : ℕ) → AreGuests gs is → AreWordsOf ws fs → slice_get gs k ≡ Some g → slice_get ws k ≡ Some w → Step p g w is fs k
read_step p [] ws is fs k g w are words e d = absurd cc
read_step p (h ∷ gs) [] is fs k g w are words e d = absurd cc
read_step p (h ∷ gs) (x ∷ ws) [] fs k g w are words e d = absurd are
read_step p (h ∷ gs) (x ∷ ws) (i ∷ is) [] k g w are words e d = absurd words
read_step p (h ∷ gs) (x ∷ ws) (i ∷ is) (f ∷ fs) zero g w are words e d =
    let s : h ≡ g = cc in let t : x ≡ w = cc in
    record { word = i; found = f; of_rule = subst (λ y. IsWordOf y.word i) s are.0.word; of_memory = subst (λ y. IsWordOf y f) t words.0; reads = refl }
read_step p (h ∷ gs) (x ∷ ws) (i ∷ is) (f ∷ fs) (suc k) g w are words e d =
    let r = read_step p gs ws is fs k g w are.1 words.1 e d in record { word = r.word; found = r.found; of_rule = r.of_rule; of_memory = r.of_memory; reads = r.reads ∙ ap (λ n. or_else (register_in r.word r.found p) (register_read (drop n (i ∷ is)) (drop n (f ∷ fs)) p)) more }
  where
    more : suc (k + 1) ≡ suc k + 1
    more = omega arith

pub read_past : (p n : ℕ) (is fs : List Instr) → length is ≤ n → register_read (drop n is) (drop n fs) p ≡ 0
read_past p n is fs past = ap (λ x. register_read x (drop n fs) p) (drop_of_length-le is past)
