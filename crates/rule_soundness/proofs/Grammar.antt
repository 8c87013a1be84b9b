-- What the grammar of rules says of the words of a rule where it is laid. This project's own.
use Rattle.std.proofs.Common.{◌≡◌, ℕ, suc, ◌+◌, ◌-◌, ◌<◌, ◌&&◌, ◌||◌, ◌==◌, not, Bool, true, false, if◌then◌else◌, ◌⊎◌, inl, inr, ⊎_elim, List, [], ◌∷◌, length, slice_get, Option, Some, None, refl, sym, ap, ◌∙◌, subst, arith}
use Rattle.machines.specs.Prelude.{IsWordOf, HasOneInstruction, bo_0, bo_2, Instr, Immediate, LogicImmediate, Load, Store, LoadUpdate, StoreUpdate, CompareImmediate, Rotate, Arithmetic, ArithmeticUnary, Logic, ShiftImmediate, LogicUnary, Compare, MoveFromCr, MoveToCr, MoveFromSpr, MoveToSpr, Sync, LoadIndexed, StoreIndexed, LoadIndexedUpdate, StoreIndexedUpdate, MoveCrField, CrLogic, Isync, BranchConditional, ArithmeticOp, Add, Addc, Adde, Subf, Subfc, Subfe, Mullw, Mulhw, Mulhwu, Divw, Divwu}
use Rattle.rule_body.specs.declared.goal.Guest.{Guest}
use Rattle.rule_body.specs.declared.rule.Rule.{Rule}
use Rattle.rule_body.specs.Prelude.{is_plain, is_ending, is_open, IsGuest, AreGuests, AreStraight, IsWindow, guests_of, IsTake, IsRule}
use Rattle.rule_soundness.specs.Prelude.{Match, bound, filled, laid_words}
use Rattle.rule_soundness.proofs.Rows.{is_fork}
use Rattle.rule_soundness.proofs.Passing.{AreRuleWords}

-- an instruction with an open immediate is a plain one
open_plain : (i : Instr) → is_open i ≡ true → is_plain i ≡ true
open_plain (Immediate op d a imm) e = refl
open_plain (LogicImmediate op s a imm) e = refl
open_plain (Load op d a imm) e = refl
open_plain (Store op s a imm) e = refl
open_plain (LoadUpdate op d a imm) e = refl
open_plain (StoreUpdate op s a imm) e = refl
open_plain (CompareImmediate op field a imm) e = refl
open_plain _ e = absurd cc

-- a word of a rule is plain, or the branch in which a window may end, which is free
pub row_of : (g : Guest) (i : Instr) → IsGuest g i → (is_plain i ≡ true) ⊎ ((is_ending i ≡ true) × (g.free ≡ true))
row_of g i is = by_free g.free refl is.row
  where
    by_open : (p q : Bool) → g.free ≡ true → is_open i ≡ p → is_ending i ≡ q → (p || q) ≡ true → (is_plain i ≡ true) ⊎ ((is_ending i ≡ true) × (g.free ≡ true))
    by_open true q f e d t = inl (open_plain i e)
    by_open false true f e d t = inr (d, f)
    by_open false false f e d t = absurd cc

    by_free : (b : Bool) → g.free ≡ b → (if b then is_open i || is_ending i else is_plain i) ≡ true → (is_plain i ≡ true) ⊎ ((is_ending i ≡ true) × (g.free ≡ true))
    by_free true f t = by_open (is_open i) (is_ending i) f refl refl t
    by_free false f t = inl t

-- where an arithmetic instruction finds its numbers is no matter
division_same : (op : ArithmeticOp) (d a b d' a' b' : ℕ) (r r' : Bool) → is_plain (Arithmetic op d a b r) ≡ is_plain (Arithmetic op d' a' b' r')
division_same Add d a b d' a' b' r r' = refl
division_same Addc d a b d' a' b' r r' = refl
division_same Adde d a b d' a' b' r r' = refl
division_same Subf d a b d' a' b' r r' = refl
division_same Subfc d a b d' a' b' r r' = refl
division_same Subfe d a b d' a' b' r r' = refl
division_same Mullw d a b d' a' b' r r' = refl
division_same Mulhw d a b d' a' b' r r' = refl
division_same Mulhwu d a b d' a' b' r r' = refl
division_same Divw d a b d' a' b' r r' = refl
division_same Divwu d a b d' a' b' r r' = refl

-- a plain word is plain where it is laid
plain_laid : (m : Match) (j : ℕ) (free : Bool) (i : Instr) → is_plain i ≡ true → is_plain (bound m.gpr (if free then filled m j i else i)) ≡ true
plain_laid m j true (Immediate op d a imm) plain = refl
plain_laid m j false (Immediate op d a imm) plain = refl
plain_laid m j true (LogicImmediate op s a imm) plain = refl
plain_laid m j false (LogicImmediate op s a imm) plain = refl
plain_laid m j true (Load op d a imm) plain = refl
plain_laid m j false (Load op d a imm) plain = refl
plain_laid m j true (Store op s a imm) plain = refl
plain_laid m j false (Store op s a imm) plain = refl
plain_laid m j true (LoadUpdate op d a imm) plain = refl
plain_laid m j false (LoadUpdate op d a imm) plain = refl
plain_laid m j true (StoreUpdate op s a imm) plain = refl
plain_laid m j false (StoreUpdate op s a imm) plain = refl
plain_laid m j true (CompareImmediate op field a imm) plain = refl
plain_laid m j false (CompareImmediate op field a imm) plain = refl
plain_laid m j true (Rotate op s a by mask_begin mask_end records) plain = refl
plain_laid m j false (Rotate op s a by mask_begin mask_end records) plain = refl
plain_laid m j true (Arithmetic op d a b records) plain = division_same op _ _ _ _ _ _ _ _ ∙ plain
plain_laid m j false (Arithmetic op d a b records) plain = division_same op _ _ _ _ _ _ _ _ ∙ plain
plain_laid m j true (ArithmeticUnary op d a records) plain = refl
plain_laid m j false (ArithmeticUnary op d a records) plain = refl
plain_laid m j true (Logic op s a b records) plain = refl
plain_laid m j false (Logic op s a b records) plain = refl
plain_laid m j true (ShiftImmediate s a by records) plain = refl
plain_laid m j false (ShiftImmediate s a by records) plain = refl
plain_laid m j true (LogicUnary op s a records) plain = refl
plain_laid m j false (LogicUnary op s a records) plain = refl
plain_laid m j true (Compare op field a b) plain = refl
plain_laid m j false (Compare op field a b) plain = refl
plain_laid m j true (MoveFromCr d) plain = refl
plain_laid m j false (MoveFromCr d) plain = refl
plain_laid m j true (MoveToCr s mask) plain = refl
plain_laid m j false (MoveToCr s mask) plain = refl
plain_laid m j true (MoveFromSpr d spr) plain = refl
plain_laid m j false (MoveFromSpr d spr) plain = refl
plain_laid m j true (MoveToSpr s spr) plain = refl
plain_laid m j false (MoveToSpr s spr) plain = refl
plain_laid m j true Sync plain = refl
plain_laid m j false Sync plain = refl
plain_laid m j true (LoadIndexed op d a b) plain = refl
plain_laid m j false (LoadIndexed op d a b) plain = refl
plain_laid m j true (StoreIndexed op s a b) plain = refl
plain_laid m j false (StoreIndexed op s a b) plain = refl
plain_laid m j true (LoadIndexedUpdate op d a b) plain = refl
plain_laid m j false (LoadIndexedUpdate op d a b) plain = refl
plain_laid m j true (StoreIndexedUpdate op s a b) plain = refl
plain_laid m j false (StoreIndexedUpdate op s a b) plain = refl
plain_laid m j true (MoveCrField to from) plain = refl
plain_laid m j false (MoveCrField to from) plain = refl
plain_laid m j true (CrLogic op d a b) plain = refl
plain_laid m j false (CrLogic op d a b) plain = refl
plain_laid m j true Isync plain = refl
plain_laid m j false Isync plain = refl
plain_laid m j free _ plain = absurd cc

-- a branch is one without a link
ends_plainly : (a b c d e : Bool) → (a && b && c && d && e) ≡ true → e ≡ true
ends_plainly true true true true true t = refl
ends_plainly false b c d e t = absurd cc
ends_plainly true false c d e t = absurd cc
ends_plainly true true false d e t = absurd cc
ends_plainly true true true false e t = absurd cc
ends_plainly true true true true false t = absurd cc

pub ending_fork : (m : Match) (j : ℕ) (free : Bool) (i : Instr) → is_ending i ≡ true → is_fork (bound m.gpr (if free then filled m j i else i)) ≡ true
ending_fork m j true (BranchConditional bo bi target absolute link) e = ends_plainly (bo_0 bo == 0) (bo_2 bo == 1) (target == 0) (not absolute) (not link) e
ending_fork m j false (BranchConditional bo bi target absolute link) e = ends_plainly (bo_0 bo == 0) (bo_2 bo == 1) (target == 0) (not absolute) (not link) e
ending_fork m j free _ e = absurd cc

-- whether the last word is a branch
abbrev pub last_ends : List Instr → Bool
last_ends [] = false
last_ends (i ∷ []) = is_ending i
last_ends (i ∷ j ∷ is) = last_ends (j ∷ is)

not_ending : (g : Guest) (i : Instr) → IsGuest g i → is_ending i ≡ false → is_plain i ≡ true
not_ending g i is e = ⊎_elim (λ p. p) (λ q. absurd cc) (row_of g i is)

-- the words of a rule, where it is laid
pub words_laid : (forks : Bool) (m : Match) (j : ℕ) (guests : List Guest) (words : List Instr) → AreGuests guests words → AreStraight words → 0 < length guests → last_ends words ≡ forks → AreRuleWords forks (laid_words m j guests words)
unfolding laid_words
words_laid forks m j [] words are straight some ends = absurd (omega (arith, some))
words_laid forks m j (g ∷ gs) [] are straight some ends = absurd are
words_laid true m j (g ∷ []) (i ∷ []) are straight some ends = ending_fork m j g.free i ends
words_laid false m j (g ∷ []) (i ∷ []) are straight some ends = plain_laid m j g.free i (not_ending g i are.0 ends)
words_laid forks m j (g ∷ []) (i ∷ k ∷ is) are straight some ends = absurd are.1
words_laid forks m j (g ∷ h ∷ gs) (i ∷ []) are straight some ends = absurd are.1
words_laid forks m j (g ∷ h ∷ gs) (i ∷ k ∷ is) are straight some ends = (plain_laid m j g.free i (not_ending g i are.0 straight.0), words_laid forks m (j + 1) (h ∷ gs) (k ∷ is) are.1 straight.1 (omega arith) ends)

-- the last guest word is that of the last instruction
pub record IsLast (guests : List Guest) (words : List Instr) : Type 0 where
  pub guest : Guest
  pub instr : Instr
  pub here : slice_get guests (length guests - 1) ≡ Some guest
  pub is : IsGuest guest instr
  pub ends : is_ending instr ≡ last_ends words

last_of : (guests : List Guest) (words : List Instr) → AreGuests guests words → 0 < length guests → IsLast guests words
last_of [] words are some = absurd (omega (arith, some))
last_of (g ∷ gs) [] are some = absurd are
last_of (g ∷ []) (i ∷ []) are some = record { guest = g; instr = i; here = refl; is = are.0; ends = refl }
last_of (g ∷ []) (i ∷ k ∷ is) are some = absurd are.1
last_of (g ∷ h ∷ gs) (i ∷ []) are some = absurd are.1
last_of (g ∷ h ∷ gs) (i ∷ k ∷ is) are some = let r = last_of (h ∷ gs) (k ∷ is) are.1 (omega arith) in
    let e : length (g ∷ h ∷ gs) - 1 ≡ suc (length (h ∷ gs) - 1) = omega arith in
    record { guest = r.guest; instr = r.instr; here = ap (slice_get (g ∷ h ∷ gs)) e ∙ r.here; is = r.is; ends = r.ends }

-- whether there is a take code
abbrev pub has_take : Option ℕ → Bool
has_take None = false
has_take (Some n) = true

same_guest : (g h : Guest) → Some g ≡ Some h → g ≡ h
same_guest g h e = cc

-- the window of a rule ends in a branch exactly where its body has a take code
pub ends_so : ((w : ℕ) → HasOneInstruction w) → (guests : List Guest) (words : List Instr) (taken : Option ℕ) → AreGuests guests words → 0 < length guests → IsTake guests taken → last_ends words ≡ has_take taken
ends_so one guests words None are some is = by_last (last_ends words) refl
  where
    l : IsLast guests words
    l = last_of guests words are some

    by_last : (b : Bool) → last_ends words ≡ b → last_ends words ≡ false
    by_last false e = e
    by_last true e = absurd (is (l.guest, l.here, (l.instr, l.is.word, l.ends ∙ e)))
ends_so one guests words (Some n) are some is =
    let l = last_of guests words are some in
    let b = is.0 in
    let same = same_guest b.0 l.guest (sym b.1 ∙ l.here) in
    let i = one l.guest.word b.2.0 l.instr (subst (λ (g : Guest). IsWordOf g.word b.2.0) same b.2.1) l.is.word in
    sym l.ends ∙ ap is_ending (sym i) ∙ b.2.2

-- the words of a rule where it is laid
pub rule_words : ((w : ℕ) → HasOneInstruction w) → (rule : Rule) → IsRule rule → (words : List Instr) → IsWindow (guests_of rule.goal) words → (m : Match) → AreRuleWords (has_take rule.body.take) (laid_words m 0 (guests_of rule.goal) words)
rule_words one rule is words window m =
    let some = is.goal.template.placed.some in
    words_laid (has_take rule.body.take) m 0 (guests_of rule.goal) words window.words window.straight some (ends_so one (guests_of rule.goal) words rule.body.take window.words some is.body.taken)
