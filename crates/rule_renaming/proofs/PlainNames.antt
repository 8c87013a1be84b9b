-- In the one instance each register field and each home is its own. This project's own.
use Rattle.std.proofs.Common.{◌≡◌, ℕ, ◌+◌, ◌*◌, ◌/◌, ◌%◌, Bool, true, false, ◌==◌, ◌||◌, nat_lt, if◌then◌else◌, List, [], ◌∷◌, map as list_map, Option, Some, None, refl, sym, ap, ◌∙◌, arith}
use Rattle.std.proofs.lemmas.Bool.Decides.{nat_tests}
use Rattle.machines.specs.Prelude.{Operand, Reg, Abs, Base, Pair, Op, AluTo, AluFrom, AluImm, TestReg, TestImm, Unary, Imul, MovTo, MovFrom, MovImm, MovToImm, MovHalfTo, MovByteTo, MovByteFrom, Shift, ShiftByCl, Lea, Extend, Bswap, Set, Cmov, Bsr, Cdq, Jcc, Jmp, JmpTo, Int80, Int3, Ud2, Instr, Immediate, LogicImmediate, CompareImmediate, Rotate, Arithmetic, ArithmeticUnary, Logic, ShiftImmediate, LogicUnary, Compare, MoveFromCr, MoveToCr, MoveFromSpr, MoveToSpr, Sync, MoveCrField, CrLogic, Isync, Load, Store, LoadUpdate, StoreUpdate, LoadIndexed, StoreIndexed, LoadIndexedUpdate, StoreIndexedUpdate, BranchConditional, Rlwinm, Rlwnm, Rlwimi}
use Rattle.rule_body.specs.declared.goal.Guest.{Guest}
use Rattle.rule_body.specs.declared.line.Hole.{Hole}
use Rattle.rule_body.specs.declared.line.HostLine.{HostLine}
use Rattle.rule_soundness.specs.Prelude.{Match, register_field, bound, filled, laid_words, register_of, offset_of, placed_operand, placed, filled_hole, laid_line}
use Rattle.rule_renaming.specs.Plain.{plain}
use Rattle.rule_renaming.proofs.Guests.{IsNamedWord, AreNamedWords}
use Rattle.rule_renaming.proofs.Bridge.{P}
use Rattle.rule_renaming.proofs.NamedWords.{filled_words}

abbrev the_number : ℕ → ℕ
the_number p = p

field_back : (p : ℕ) → register_field the_number p ≡ p
field_back p = by_test (p == 0) refl
  where
    by_test : (b : Bool) → (p == 0) ≡ b → (if b then 0 else p) ≡ p
    by_test true e = let h : p ≡ 0 = grind (arith, nat_tests) in sym h
    by_test false e = refl

module _ (m : Match) (S : ℕ → Type 0) where
  word_back : (i : Instr) → IsNamedWord m S i → bound the_number i ≡ i
  word_back (LogicImmediate op s a imm) named = ap (λ x. LogicImmediate op x (register_field the_number a) imm) (field_back s) ∙ ap (λ x. LogicImmediate op s x imm) (field_back a)
  word_back (CompareImmediate op field a imm) named = ap (λ x. CompareImmediate op field x imm) (field_back a)
  word_back (Arithmetic op d a b records) named = ap (λ x. Arithmetic op x (register_field the_number a) (register_field the_number b) records) (field_back d) ∙ ap (λ x. Arithmetic op d x (register_field the_number b) records) (field_back a) ∙ ap (λ x. Arithmetic op d a x records) (field_back b)
  word_back (ArithmeticUnary op d a records) named = ap (λ x. ArithmeticUnary op x (register_field the_number a) records) (field_back d) ∙ ap (λ x. ArithmeticUnary op d x records) (field_back a)
  word_back (Logic op s a b records) named = ap (λ x. Logic op x (register_field the_number a) (register_field the_number b) records) (field_back s) ∙ ap (λ x. Logic op s x (register_field the_number b) records) (field_back a) ∙ ap (λ x. Logic op s a x records) (field_back b)
  word_back (ShiftImmediate s a by records) named = ap (λ x. ShiftImmediate x (register_field the_number a) by records) (field_back s) ∙ ap (λ x. ShiftImmediate s x by records) (field_back a)
  word_back (LogicUnary op s a records) named = ap (λ x. LogicUnary op x (register_field the_number a) records) (field_back s) ∙ ap (λ x. LogicUnary op s x records) (field_back a)
  word_back (Compare op field a b) named = ap (λ x. Compare op field x (register_field the_number b)) (field_back a) ∙ ap (λ x. Compare op field a x) (field_back b)
  word_back (MoveFromCr d) named = ap (λ x. MoveFromCr x) (field_back d)
  word_back (MoveToCr s mask) named = ap (λ x. MoveToCr x mask) (field_back s)
  word_back (MoveFromSpr d spr) named = ap (λ x. MoveFromSpr x spr) (field_back d)
  word_back (MoveToSpr s spr) named = ap (λ x. MoveToSpr x spr) (field_back s)
  word_back Sync named = refl
  word_back (MoveCrField to from) named = refl
  word_back (CrLogic op d a b) named = refl
  word_back Isync named = refl
  word_back (Load op d a imm) named = ap (λ x. Load op x (register_field the_number a) imm) (field_back d) ∙ ap (λ x. Load op d x imm) (field_back a)
  word_back (Store op s a imm) named = ap (λ x. Store op x (register_field the_number a) imm) (field_back s) ∙ ap (λ x. Store op s x imm) (field_back a)
  word_back (LoadUpdate op d a imm) named = ap (λ x. LoadUpdate op x (register_field the_number a) imm) (field_back d) ∙ ap (λ x. LoadUpdate op d x imm) (field_back a)
  word_back (StoreUpdate op s a imm) named = ap (λ x. StoreUpdate op x (register_field the_number a) imm) (field_back s) ∙ ap (λ x. StoreUpdate op s x imm) (field_back a)
  word_back (LoadIndexed op d a b) named = ap (λ x. LoadIndexed op x (register_field the_number a) (register_field the_number b)) (field_back d) ∙ ap (λ x. LoadIndexed op d x (register_field the_number b)) (field_back a) ∙ ap (λ x. LoadIndexed op d a x) (field_back b)
  word_back (StoreIndexed op s a b) named = ap (λ x. StoreIndexed op x (register_field the_number a) (register_field the_number b)) (field_back s) ∙ ap (λ x. StoreIndexed op s x (register_field the_number b)) (field_back a) ∙ ap (λ x. StoreIndexed op s a x) (field_back b)
  word_back (LoadIndexedUpdate op d a b) named = ap (λ x. LoadIndexedUpdate op x (register_field the_number a) (register_field the_number b)) (field_back d) ∙ ap (λ x. LoadIndexedUpdate op d x (register_field the_number b)) (field_back a) ∙ ap (λ x. LoadIndexedUpdate op d a x) (field_back b)
  word_back (StoreIndexedUpdate op s a b) named = ap (λ x. StoreIndexedUpdate op x (register_field the_number a) (register_field the_number b)) (field_back s) ∙ ap (λ x. StoreIndexedUpdate op s x (register_field the_number b)) (field_back a) ∙ ap (λ x. StoreIndexedUpdate op s a x) (field_back b)
  word_back (Immediate op d a imm) named = ap (λ x. Immediate op x (register_field the_number a) imm) (field_back d) ∙ ap (λ x. Immediate op d x imm) (field_back a)
  word_back (BranchConditional bo bi target absolute link) named = refl
  word_back (Rotate Rlwnm s a by mask_begin mask_end records) named = ap (λ x. Rotate Rlwnm x (register_field the_number a) (register_field the_number by) mask_begin mask_end records) (field_back s) ∙ ap (λ x. Rotate Rlwnm s x (register_field the_number by) mask_begin mask_end records) (field_back a) ∙ ap (λ x. Rotate Rlwnm s a x mask_begin mask_end records) (field_back by)
  word_back (Rotate Rlwinm s a by mask_begin mask_end records) named = ap (λ x. Rotate Rlwinm x (register_field the_number a) by mask_begin mask_end records) (field_back s) ∙ ap (λ x. Rotate Rlwinm s x by mask_begin mask_end records) (field_back a)
  word_back (Rotate Rlwimi s a by mask_begin mask_end records) named = ap (λ x. Rotate Rlwimi x (register_field the_number a) by mask_begin mask_end records) (field_back s) ∙ ap (λ x. Rotate Rlwimi s x by mask_begin mask_end records) (field_back a)
  word_back _ named = absurd named

  filled_back : (j : ℕ) (free : Bool) (i : Instr) → (if free then filled (plain m) j i else i) ≡ (if free then filled m j i else i)
  filled_back j true i = refl
  filled_back j false i = refl

-- the words
pub plain_words : (slots : List Bool) (m : Match) (j : ℕ) (guests : List Guest) (words : List Instr) → AreNamedWords m (P slots m) (filled_words slots m j guests words) → laid_words (plain m) j guests words ≡ filled_words slots m j guests words
unfolding laid_words filled_words
plain_words slots m j [] words named = refl
plain_words slots m j (g ∷ gs) [] named = refl
plain_words slots m j (g ∷ gs) (i ∷ is) named =
    ap (λ x. bound the_number x ∷ laid_words (plain m) (j + 1) gs is) (filled_back m (P slots m) j g.free i) ∙ ap (λ x. x ∷ laid_words (plain m) (j + 1) gs is) (word_back m (P slots m) (if g.free then filled m j i else i) named.0)
    ∙ ap (λ l. (if g.free then filled m j i else i) ∷ l) (plain_words slots m (j + 1) gs is named.1)

-- registers and homes
module _ (m : Match) where
  register_back : (r : ℕ) → register_of (plain m) r ≡ r
  register_back r = by_test (r == 3 || r == 6 || r == 7)
    where
      by_test : (b : Bool) → (if b then r else r) ≡ r
      by_test true = refl
      by_test false = refl

  offset_back : (o : ℕ) → offset_of (plain m) o ≡ o
  offset_back o = by_test (nat_lt o 128)
    where
      by_test : (b : Bool) → (if b then 4 * (o / 4) + o % 4 else o) ≡ o
      by_test true = omega arith
      by_test false = refl

  operand_back : (operand : Operand) → placed_operand (plain m) operand ≡ operand
  operand_back (Reg r) = ap Reg (register_back r)
  operand_back (Abs o) = ap Abs (offset_back o)
  operand_back (Base b d) = ap (λ x. Base x d) (register_back b)
  operand_back (Pair b x s d) = ap (λ y. Pair y (register_of (plain m) x) s d) (register_back b) ∙ ap (λ y. Pair b y s d) (register_back x)

  op_back : (op : Op) → placed (plain m) op ≡ op
  op_back (AluTo op to from) = ap (λ x. AluTo op x (register_of (plain m) from)) (operand_back to) ∙ ap (AluTo op to) (register_back from)
  op_back (AluFrom op to from) = ap (λ x. AluFrom op x (placed_operand (plain m) from)) (register_back to) ∙ ap (AluFrom op to) (operand_back from)
  op_back (AluImm op to imm) = ap (λ x. AluImm op x imm) (operand_back to)
  op_back (TestReg a b) = ap (λ x. TestReg x (register_of (plain m) b)) (operand_back a) ∙ ap (TestReg a) (register_back b)
  op_back (TestImm a imm) = ap (λ x. TestImm x imm) (operand_back a)
  op_back (Unary op on) = ap (Unary op) (operand_back on)
  op_back (Imul to from) = ap (λ x. Imul x (placed_operand (plain m) from)) (register_back to) ∙ ap (Imul to) (operand_back from)
  op_back (MovTo to from) = ap (λ x. MovTo x (register_of (plain m) from)) (operand_back to) ∙ ap (MovTo to) (register_back from)
  op_back (MovFrom to from) = ap (λ x. MovFrom x (placed_operand (plain m) from)) (register_back to) ∙ ap (MovFrom to) (operand_back from)
  op_back (MovImm to imm) = ap (λ x. MovImm x imm) (register_back to)
  op_back (MovToImm to imm) = ap (λ x. MovToImm x imm) (operand_back to)
  op_back (MovHalfTo to from) = ap (λ x. MovHalfTo x (register_of (plain m) from)) (operand_back to) ∙ ap (MovHalfTo to) (register_back from)
  op_back (MovByteTo to from) = ap (λ x. MovByteTo x (register_of (plain m) from)) (operand_back to) ∙ ap (MovByteTo to) (register_back from)
  op_back (MovByteFrom to from) = ap (λ x. MovByteFrom x (placed_operand (plain m) from)) (register_back to) ∙ ap (MovByteFrom to) (operand_back from)
  op_back (Shift op to by) = ap (λ x. Shift op x by) (operand_back to)
  op_back (ShiftByCl op to) = ap (ShiftByCl op) (operand_back to)
  op_back (Lea to from) = ap (λ x. Lea x (placed_operand (plain m) from)) (register_back to) ∙ ap (Lea to) (operand_back from)
  op_back (Extend op to from) = ap (λ x. Extend op x (placed_operand (plain m) from)) (register_back to) ∙ ap (Extend op to) (operand_back from)
  op_back (Bswap r) = ap Bswap (register_back r)
  op_back (Set condition to) = ap (Set condition) (operand_back to)
  op_back (Cmov condition to from) = ap (λ x. Cmov condition x (placed_operand (plain m) from)) (register_back to) ∙ ap (Cmov condition to) (operand_back from)
  op_back (Bsr to from) = ap (λ x. Bsr x (placed_operand (plain m) from)) (register_back to) ∙ ap (Bsr to) (operand_back from)
  op_back Cdq = refl
  op_back (Jcc condition rel) = refl
  op_back (Jmp rel) = refl
  op_back (JmpTo to) = refl
  op_back Int80 = refl
  op_back Int3 = refl
  op_back Ud2 = refl

  hole_back : (hole : Option (Hole × ℕ)) (op : Op) → filled_hole (plain m) hole op ≡ filled_hole m hole op
  hole_back None op = refl
  hole_back (Some (hole, j)) op = refl

  -- the ops
  pub plain_ops : (lines : List HostLine) → list_map (laid_line (plain m)) lines ≡ list_map (λ (line : HostLine). filled_hole m line.hole line.op) lines
  plain_ops [] = refl
  plain_ops (line ∷ lines) =
      ap (λ x. x ∷ list_map (laid_line (plain m)) lines) (op_back (filled_hole (plain m) line.hole line.op) ∙ hole_back line.hole line.op) ∙ ap (λ l. filled_hole m line.hole line.op ∷ l) (plain_ops lines)
