-- What the grammar of rules says of the ops of a rule: they name its parameters, and nothing else. This project's own.
use Rattle.std.proofs.Common.{◌≡◌, ℕ, ◌+◌, ◌-◌, ◌*◌, ◌<◌, ◌≤◌, inl, inr, Bool, true, false, ◌&&◌, ◌||◌, ◌==◌, nat_lt, List, [], ◌∷◌, ◌++◌, IsTrue, Option, Some, None, refl, sym, ap, ◌∙◌, subst, arith}
use Rattle.std.specs.List.{AllByRecursion}
use Rattle.std.proofs.lemmas.Bool.Decides.{nat_tests}
use Rattle.machines.specs.Prelude.{Map, IsInProfile, Operand, Reg, Abs, Base, Pair, Op, AluTo, AluFrom, AluImm, TestReg, TestImm, Unary, Imul, MovTo, MovFrom, MovImm, MovToImm, MovHalfTo, MovByteTo, MovByteFrom, Shift, ShiftByCl, Lea, Extend, Bswap, Set, Cmov, Bsr, Cdq, Jcc, Jmp, JmpTo, Int80, Int3, Ud2, Not, Neg, Mul, Imul1, Div, Idiv, MovzxByte, MovzxHalf, MovsxByte, MovsxHalf, Rights, extend_size}
use Rattle.rule_body.specs.declared.line.Hole.{Hole}
use Rattle.rule_body.specs.declared.line.HostLine.{HostLine}
use Rattle.rule_body.specs.declared.operands.OpParts.{OpParts}
use Rattle.rule_body.specs.Prelude.{is_straight, parts, operand_registers, registers, is_usable, IsHome, IsOperandFor, IsHostLine, Template, slot_count}
use Rattle.rule_soundness.specs.Prelude.{Match, slot_register, body_slot, hole_value, offset_of, displaced, filled_op, filled_hole}
use Rattle.rule_renaming.proofs.Slots.{find_slot}
use Rattle.rule_renaming.proofs.Parameters.{slot_par, Bound}
use Rattle.rule_renaming.proofs.Hosts.{IsOwn, IsAddress, IsWithin, IsNamed}
use Rattle.rule_renaming.proofs.Bridge.{U, O, named_home, other_home}

is_below : (r n : ℕ) → nat_lt r n ≡ true → r < n
is_below r n e = grind (arith, nat_tests)

is_number : (r n : ℕ) → (r == n) ≡ true → r ≡ n
is_number r n e = grind (arith, nat_tests)

module _ (slots : List Bool) (m : Match) where
  by_slot : (n r : ℕ) → n < slot_count slots → r ≡ slot_register n → U slots m r
  by_slot n r lt e =
      let f = find_slot slots n lt in
      let w = slot_par slots f.0 true f.1 in
      let b : f.0 + 1 - 1 ≡ f.0 = let x = f.0 in one_back x in
      inr (f.0 + 1, w.0, w.1, e ∙ ap slot_register (sym f.2) ∙ ap (body_slot slots) (sym b))
    where
      one_back : (x : ℕ) → x + 1 - 1 ≡ x
      one_back x = omega arith

  -- a usable register is eax, ecx, edx or that of a parameter in a slot
  usable_named : (r : ℕ) → IsTrue (is_usable (slot_count slots) r) → U slots m r
  usable_named r is = by_tests (nat_lt r 3) (r == 3) (nat_lt 0 (slot_count slots)) (r == 6) (nat_lt 1 (slot_count slots)) (r == 7) (nat_lt 2 (slot_count slots)) refl refl refl refl refl refl refl is
    where
      by_tests : (t a x b y c z : Bool) → nat_lt r 3 ≡ t → (r == 3) ≡ a → nat_lt 0 (slot_count slots) ≡ x → (r == 6) ≡ b → nat_lt 1 (slot_count slots) ≡ y → (r == 7) ≡ c → nat_lt 2 (slot_count slots) ≡ z →
          (t || (a && x) || (b && y) || (c && z)) ≡ true → U slots m r
      by_tests true a x b y c z et ea ex eb ey ec ez is = inl (is_below r 3 et)
      by_tests false true true b y c z et ea ex eb ey ec ez is = by_slot 0 r (is_below 0 (slot_count slots) ex) (is_number r 3 ea)
      by_tests false true false true true c z et ea ex eb ey ec ez is = by_slot 1 r (is_below 1 (slot_count slots) ey) (is_number r 6 eb)
      by_tests false true false true false true true et ea ex eb ey ec ez is = by_slot 2 r (is_below 2 (slot_count slots) ez) (is_number r 7 ec)
      by_tests false true false false y true true et ea ex eb ey ec ez is = by_slot 2 r (is_below 2 (slot_count slots) ez) (is_number r 7 ec)
      by_tests false false x true true c z et ea ex eb ey ec ez is = by_slot 1 r (is_below 1 (slot_count slots) ey) (is_number r 6 eb)
      by_tests false false x true false true true et ea ex eb ey ec ez is = by_slot 2 r (is_below 2 (slot_count slots) ez) (is_number r 7 ec)
      by_tests false false x false y true true et ea ex eb ey ec ez is = by_slot 2 r (is_below 2 (slot_count slots) ez) (is_number r 7 ec)
      by_tests false true false true false true false et ea ex eb ey ec ez is = absurd cc
      by_tests false true false true false false z et ea ex eb ey ec ez is = absurd cc
      by_tests false true false false y true false et ea ex eb ey ec ez is = absurd cc
      by_tests false true false false y false z et ea ex eb ey ec ez is = absurd cc
      by_tests false false x true false true false et ea ex eb ey ec ez is = absurd cc
      by_tests false false x true false false z et ea ex eb ey ec ez is = absurd cc
      by_tests false false x false y true false et ea ex eb ey ec ez is = absurd cc
      by_tests false false x false y false z et ea ex eb ey ec ez is = absurd cc

  abbrev AreUsable : List ℕ → Type 0
  AreUsable rs = AllByRecursion (λ r. IsTrue (is_usable (slot_count slots) r)) rs

  left_usable : (xs ys : List ℕ) → AreUsable (xs ++ ys) → AreUsable xs
  left_usable [] ys is = tt
  left_usable (x ∷ xs) ys is = (is.0, left_usable xs ys is.1)

  right_usable : (xs ys : List ℕ) → AreUsable (xs ++ ys) → AreUsable ys
  right_usable [] ys is = is
  right_usable (x ∷ xs) ys is = right_usable xs ys is.1

  module _ (map : Map) (b : Bound slots m map) (area : ℕ) (host : Rights) where
    abbrev Own : ℕ → Operand → Type 0
    Own size operand = IsOwn m area host (U slots m) (O slots m) size operand

    abbrev Within : ℕ → Operand → Type 0
    Within size operand = IsWithin m area host (U slots m) (O slots m) size operand

    abbrev Address : Operand → Type 0
    Address operand = IsAddress m area host (U slots m) (O slots m) operand

    abbrev Named : Op → Type 0
    Named op = IsNamed m area host (U slots m) (O slots m) op

    home_own : (size o : ℕ) → size ≤ 4 → IsHome slots o size → Own size (Abs o)
    home_own size o few (inr high) = (few, λ i lt. (inl (omega (arith, high.0), omega (arith, high.1, lt)), other_home slots m map b (o + i) (omega (arith, high.0)) ∙ ap (λ k. k + i) (sym (other_home slots m map b o high.0))))
    home_own size o few (inl home) = (
      few,
      λ i lt.
          let w = slot_par slots home.0 false home.2 in
          let four : i < 4 = omega (arith, lt, few) in let e : o + i ≡ 4 * (home.0 + 1) + i = ap (λ k. k + i) home.1 in let z : o ≡ 4 * (home.0 + 1) + 0 = let q = home.1 in omega (arith, q) in
          let n = named_home slots m map b (home.0 + 1) i w.0 four in let n0 = named_home slots m map b (home.0 + 1) 0 w.0 (omega arith) in
          (inr (home.0 + 1, i, w.0, w.1, four, e), ap (offset_of m) e ∙ n ∙ ap (λ k. k + i) (sym (ap (offset_of m) z ∙ n0 ∙ omega arith))),
    )

    module _ (t : Template) (is_slots : t.slots ≡ slots) where
      -- an operand of an op that is no move over a sum
      operand_own : (p : OpParts) (operand : Operand) (size : ℕ) → size ≤ 4 → p.width ≡ size → p.moves ≡ false → AreUsable (operand_registers (Some operand)) → IsOperandFor t p (Some operand) → Own size operand
      operand_own p (Reg r) size few w moves usable is = usable_named r usable.0
      operand_own p (Abs o) size few w moves usable is = home_own size o few (subst (λ n. IsHome slots o n) w (subst (λ l. IsHome l o p.width) is_slots is.0))
      operand_own p (Base b' d) size few w moves usable is = absurd cc
      operand_own p (Pair b' x s d) size few w moves usable is = absurd cc

      operand_within : (p : OpParts) (operand : Operand) (size : ℕ) → size ≤ 4 → p.width ≡ size → AreUsable (operand_registers (Some operand)) → IsOperandFor t p (Some operand) → Within size operand
      operand_within p (Reg r) size few w usable is = usable_named r usable.0
      operand_within p (Abs o) size few w usable is = home_own size o few (subst (λ n. IsHome slots o n) w (subst (λ l. IsHome l o p.width) is_slots is.0))
      operand_within p (Base b' d) size few w usable is = usable_named b' usable.0
      operand_within p (Pair b' x s d) size few w usable is = (usable_named b' usable.0, usable_named x usable.1.0)

      operand_address : (to : ℕ) (operand : Operand) → IsInProfile (Lea to operand) → AreUsable (operand_registers (Some operand)) → Address operand
      operand_address to (Reg r) profile usable = absurd profile.1
      operand_address to (Abs o) profile usable = absurd profile.1
      operand_address to (Base b' d) profile usable = usable_named b' usable.0
      operand_address to (Pair b' x s d) profile usable = (usable_named b' usable.0, usable_named x usable.1.0)

      other : (operand : Operand) (r : ℕ) → AreUsable (operand_registers (Some operand) ++ (r ∷ [])) → U slots m r
      other operand r is = usable_named r (right_usable (operand_registers (Some operand)) (r ∷ []) is).0

      first : (operand : Operand) (rs : List ℕ) → AreUsable (operand_registers (Some operand) ++ rs) → AreUsable (operand_registers (Some operand))
      first operand rs is = left_usable (operand_registers (Some operand)) rs is

      named_op : (op : Op) → is_straight op ≡ true → IsInProfile op → AreUsable (registers op) → IsOperandFor t (parts op) (parts op).operand → Named op
      unfolding is_straight parts
      named_op (AluTo op to from) straight profile usable is = (operand_own (parts (AluTo op to from)) to 4 (omega arith) refl refl (first to (from ∷ []) usable) is, other to from usable)
      named_op (AluFrom op to from) straight profile usable is = (other from to usable, operand_own (parts (AluFrom op to from)) from 4 (omega arith) refl refl (first from (to ∷ []) usable) is)
      named_op (AluImm op to imm) straight profile usable is = operand_own (parts (AluImm op to imm)) to 4 (omega arith) refl refl (first to [] usable) is
      named_op (TestReg a b) straight profile usable is = (operand_own (parts (TestReg a b)) a 4 (omega arith) refl refl (first a (b ∷ []) usable) is, other a b usable)
      named_op (TestImm a imm) straight profile usable is = operand_own (parts (TestImm a imm)) a 4 (omega arith) refl refl (first a [] usable) is
      named_op (Unary Not on) straight profile usable is = operand_own (parts (Unary Not on)) on 4 (omega arith) refl refl (first on [] usable) is
      named_op (Unary Neg on) straight profile usable is = operand_own (parts (Unary Neg on)) on 4 (omega arith) refl refl (first on [] usable) is
      named_op (Unary Mul on) straight profile usable is = operand_own (parts (Unary Mul on)) on 4 (omega arith) refl refl (first on [] usable) is
      named_op (Unary Imul1 on) straight profile usable is = operand_own (parts (Unary Imul1 on)) on 4 (omega arith) refl refl (first on [] usable) is
      named_op (Imul to from) straight profile usable is = (other from to usable, operand_own (parts (Imul to from)) from 4 (omega arith) refl refl (first from (to ∷ []) usable) is)
      named_op (MovTo to from) straight profile usable is = (operand_within (parts (MovTo to from)) to 4 (omega arith) refl (first to (from ∷ []) usable) is, other to from usable)
      named_op (MovFrom to from) straight profile usable is = (other from to usable, operand_within (parts (MovFrom to from)) from 4 (omega arith) refl (first from (to ∷ []) usable) is)
      named_op (MovImm to imm) straight profile usable is = usable_named to usable.0
      named_op (MovToImm to imm) straight profile usable is = operand_within (parts (MovToImm to imm)) to 4 (omega arith) refl (first to [] usable) is
      named_op (MovHalfTo to from) straight profile usable is = (operand_within (parts (MovHalfTo to from)) to 2 (omega arith) refl (first to (from ∷ []) usable) is, other to from usable)
      named_op (MovByteTo to from) straight profile usable is = (operand_within (parts (MovByteTo to from)) to 1 (omega arith) refl (first to (from ∷ []) usable) is, other to from usable)
      named_op (MovByteFrom to from) straight profile usable is = (other from to usable, operand_within (parts (MovByteFrom to from)) from 1 (omega arith) refl (first from (to ∷ []) usable) is)
      named_op (Shift op to by) straight profile usable is = operand_own (parts (Shift op to by)) to 4 (omega arith) refl refl (first to [] usable) is
      named_op (ShiftByCl op to) straight profile usable is = operand_own (parts (ShiftByCl op to)) to 4 (omega arith) refl refl (first to [] usable) is
      named_op (Lea to from) straight profile usable is = (other from to usable, operand_address to from profile (first from (to ∷ []) usable))
      named_op (Extend MovzxByte to from) straight profile usable is = (other from to usable, operand_within (parts (Extend MovzxByte to from)) from 1 (omega arith) refl (first from (to ∷ []) usable) is)
      named_op (Extend MovzxHalf to from) straight profile usable is = (other from to usable, operand_within (parts (Extend MovzxHalf to from)) from 2 (omega arith) refl (first from (to ∷ []) usable) is)
      named_op (Extend MovsxByte to from) straight profile usable is = (other from to usable, operand_within (parts (Extend MovsxByte to from)) from 1 (omega arith) refl (first from (to ∷ []) usable) is)
      named_op (Extend MovsxHalf to from) straight profile usable is = (other from to usable, operand_within (parts (Extend MovsxHalf to from)) from 2 (omega arith) refl (first from (to ∷ []) usable) is)
      named_op (Bswap r) straight profile usable is = usable_named r usable.0
      named_op (Set condition to) straight profile usable is = operand_own (parts (Set condition to)) to 1 (omega arith) refl refl (first to [] usable) is
      named_op (Cmov condition to from) straight profile usable is = (other from to usable, operand_own (parts (Cmov condition to from)) from 4 (omega arith) refl refl (first from (to ∷ []) usable) is)
      named_op (Bsr to from) straight profile usable is = (other from to usable, operand_own (parts (Bsr to from)) from 4 (omega arith) refl refl (first from (to ∷ []) usable) is)
      named_op Cdq straight profile usable is = tt
      named_op (Unary Div on) straight profile usable is = absurd cc
      named_op (Unary Idiv on) straight profile usable is = absurd cc
      named_op (Jcc condition rel) straight profile usable is = absurd cc
      named_op (Jmp rel) straight profile usable is = absurd cc
      named_op (JmpTo to) straight profile usable is = absurd cc
      named_op Int80 straight profile usable is = absurd cc
      named_op Int3 straight profile usable is = absurd cc
      named_op Ud2 straight profile usable is = absurd cc

      -- a constant in a hole changes none of that
      own_filled : (size c : ℕ) (operand : Operand) → Own size operand → Own size (displaced c operand)
      own_filled size c (Reg r) is = is
      own_filled size c (Abs o) is = is
      own_filled size c (Base b' d) is = absurd is
      own_filled size c (Pair b' x s d) is = absurd is

      within_filled : (size c : ℕ) (operand : Operand) → Within size operand → Within size (displaced c operand)
      within_filled size c (Reg r) is = is
      within_filled size c (Abs o) is = is
      within_filled size c (Base b' d) is = is
      within_filled size c (Pair b' x s d) is = is

      address_filled : (c : ℕ) (operand : Operand) → Address operand → Address (displaced c operand)
      address_filled c (Reg r) is = absurd is
      address_filled c (Abs o) is = absurd is
      address_filled c (Base b' d) is = is
      address_filled c (Pair b' x s d) is = is

      named_filled : (c : ℕ) (op : Op) → Named op → Named (filled_op c op)
      named_filled c (AluTo op to from) is = is
      named_filled c (AluFrom op to from) is = is
      named_filled c (AluImm op to imm) is = is
      named_filled c (TestReg a b) is = is
      named_filled c (TestImm a imm) is = is
      named_filled c (Unary Not on) is = is
      named_filled c (Unary Neg on) is = is
      named_filled c (Unary Mul on) is = is
      named_filled c (Unary Imul1 on) is = is
      named_filled c (Imul to from) is = is
      named_filled c (MovTo to from) is = (within_filled 4 c to is.0, is.1)
      named_filled c (MovFrom to from) is = (is.0, within_filled 4 c from is.1)
      named_filled c (MovImm to imm) is = is
      named_filled c (MovToImm to imm) is = is
      named_filled c (MovHalfTo to from) is = (within_filled 2 c to is.0, is.1)
      named_filled c (MovByteTo to from) is = (within_filled 1 c to is.0, is.1)
      named_filled c (MovByteFrom to from) is = (is.0, within_filled 1 c from is.1)
      named_filled c (Shift op to by) is = is
      named_filled c (ShiftByCl op to) is = is
      named_filled c (Lea to from) is = (is.0, address_filled c from is.1)
      named_filled c (Extend op to from) is = (is.0, within_filled (extend_size op) c from is.1)
      named_filled c (Bswap r) is = is
      named_filled c (Set condition to) is = is
      named_filled c (Cmov condition to from) is = is
      named_filled c (Bsr to from) is = is
      named_filled c Cdq is = is
      named_filled c _ is = absurd is

      named_hole : (hole : Option (Hole × ℕ)) (op : Op) → Named op → Named (filled_hole m hole op)
      named_hole None op is = is
      named_hole (Some (hole, j)) op is = named_filled (hole_value hole (m.constant j)) op is

      -- a line of a body names parameters alone
      pub line_named : (line : HostLine) → IsHostLine t line → Named (filled_hole m line.hole line.op)
      line_named line is = named_hole line.hole line.op (named_op line.op is.straight is.profile (subst (λ l. AllByRecursion (λ r. IsTrue (is_usable (slot_count l) r)) (registers line.op)) is_slots is.registers) is.operand)
