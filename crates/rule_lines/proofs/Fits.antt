-- What the grammar of rules says of where an op's values come from and where its results go. This project's own.
use Rattle.std.proofs.Common.{◌≡◌, ℕ, ◌<◌, ◌^◌, inl, inr, Bool, true, false, List, [], ◌∷◌, ◌++◌, IsTrue, Some, refl, sym, ◌∙◌, subst, arith}
use Rattle.std.specs.List.{AllByRecursion}
use Rattle.machines.specs.Prelude.{IsInProfile, Operand, Reg, Abs, Base, Pair, AluOp, Add, Or, Adc, Sbb, And, Sub, Xor, Cmp, Op, AluTo, AluFrom, AluImm, TestReg, TestImm, Unary, Imul, MovTo, MovFrom, MovImm, MovToImm, MovHalfTo, MovByteTo, MovByteFrom, Shift, ShiftByCl, Lea, Extend, Bswap, Set, Cmov, Bsr, Cdq, Jcc, Jmp, JmpTo, Int80, Int3, Ud2, Not, Neg, Mul, Imul1, Div, Idiv, MovzxByte, MovzxHalf, MovsxByte, MovsxHalf}
use Rattle.ia_codec.specs.Spelling.{IsOperand as IsSpeltOperand, IsByte, IsMemory, IsSum}
use Rattle.rule_body.specs.declared.operands.OpParts.{OpParts}
use Rattle.rule_body.specs.Ops.{alu_writes}
use Rattle.rule_body.specs.Lines.{IsKept}
use Rattle.rule_body.specs.Prelude.{is_straight, parts, operand_registers, registers, is_usable, IsHome, IsOperandFor, Template, slot_count}
use Rattle.rule_soundness.specs.Shapes.{Source, Zero, OperandValue, OwnNumber, CountByte, AddressValue, x_source, y_source, Destination, Nowhere, ToOperand, ToByte, ToBoth, ToHigh, alu_destination, destination, own_number}
use Rattle.place_circuits.specs.Sources.{IsWidth}
use Rattle.rule_lines.proofs.Registers.{IsNamed, usable_named}

-- numbers of 32 bits in an operand
abbrev IsShort : Operand → Type 0
IsShort (Reg r) = Unit {0}
IsShort (Abs o) = Unit {0}
IsShort (Base b d) = d < 2 ^ 32
IsShort (Pair b x s d) = (s < 4) × (d < 2 ^ 32)

spelt_short : (operand : Operand) → IsSpeltOperand operand → IsShort operand
spelt_short (Reg r) is = tt
spelt_short (Abs o) is = tt
spelt_short (Base b d) is = is.1
spelt_short (Pair b x s d) is = (is.2, is.3)

memory_short : (operand : Operand) → IsMemory operand → IsShort operand
memory_short (Reg r) is = tt
memory_short (Abs o) is = tt
memory_short (Base b d) is = is.1
memory_short (Pair b x s d) is = (is.2, is.3)

byte_short : (operand : Operand) → IsByte operand → IsShort operand
byte_short (Reg r) is = tt
byte_short (Abs o) is = tt
byte_short (Base b d) is = is.1
byte_short (Pair b x s d) is = (is.2, is.3)

module _ (slots : List Bool) (dead : ℕ) where
  -- a named register, a home of the body or, in a move, a sum of named registers
  abbrev pub Fits : Bool → ℕ → Operand → Type 0
  Fits moves size (Reg r) = IsNamed slots r
  Fits moves size (Abs o) = IsHome slots o size
  Fits moves size (Base b d) = (moves ≡ true) × IsNamed slots b × (d < 2 ^ 32)
  Fits moves size (Pair b x s d) = (moves ≡ true) × IsNamed slots b × IsNamed slots x × (s < 4) × (d < 2 ^ 32)

  -- no byte of a home that is written is dead
  abbrev pub Kept : ℕ → Operand → Type 0
  Kept size (Abs o) = IsKept dead o size
  Kept size operand = Unit {0}

  abbrev pub FitsSum : Operand → Type 0
  FitsSum (Reg r) = ⊥
  FitsSum (Abs o) = ⊥
  FitsSum (Base b d) = IsNamed slots b × (d < 2 ^ 32)
  FitsSum (Pair b x s d) = IsNamed slots b × IsNamed slots x × (s < 4) × (d < 2 ^ 32)

  abbrev pub FitsSource : Bool → Op → Source → Type 0
  FitsSource moves op Zero = Unit {0}
  FitsSource moves op (OperandValue size operand) = IsWidth size × Fits moves size operand
  FitsSource moves op OwnNumber = own_number op < 2 ^ 32
  FitsSource moves op CountByte = Unit {0}
  FitsSource moves op (AddressValue operand) = FitsSum operand

  abbrev pub FitsDestination : Bool → Destination → Type 0
  FitsDestination moves Nowhere = Unit {0}
  FitsDestination moves (ToOperand size operand) = IsWidth size × Fits moves size operand × Kept size operand
  FitsDestination moves (ToByte operand) = Fits moves 1 operand × Kept 1 operand
  FitsDestination moves ToBoth = Unit {0}
  FitsDestination moves ToHigh = Unit {0}

  pub record FitsOp (op : Op) : Type 0 where
    pub x : FitsSource false op (x_source op)
    pub y : FitsSource (parts op).moves op (y_source op)
    pub to : FitsDestination (parts op).moves (destination op)

  one : IsWidth 1
  one = inl refl

  two : IsWidth 2
  two = inr (inl refl)

  four : IsWidth 4
  four = inr (inr refl)

  alu_fits : (op : AluOp) (operand : Operand) → Fits false 4 operand → (IsTrue (alu_writes op) → Kept 4 operand) → FitsDestination false (alu_destination op operand)
  alu_fits Add operand fits kept = (four, fits, kept refl)
  alu_fits Or operand fits kept = (four, fits, kept refl)
  alu_fits Adc operand fits kept = (four, fits, kept refl)
  alu_fits Sbb operand fits kept = (four, fits, kept refl)
  alu_fits And operand fits kept = (four, fits, kept refl)
  alu_fits Sub operand fits kept = (four, fits, kept refl)
  alu_fits Xor operand fits kept = (four, fits, kept refl)
  alu_fits Cmp operand fits kept = tt

  abbrev AreUsable : List ℕ → Type 0
  AreUsable rs = AllByRecursion (λ r. IsTrue (is_usable (slot_count slots) r)) rs

  left_usable : (xs ys : List ℕ) → AreUsable (xs ++ ys) → AreUsable xs
  left_usable [] ys is = tt
  left_usable (x ∷ xs) ys is = (is.0, left_usable xs ys is.1)

  right_usable : (xs ys : List ℕ) → AreUsable (xs ++ ys) → AreUsable ys
  right_usable [] ys is = is
  right_usable (x ∷ xs) ys is = right_usable xs ys is.1

  module _ (t : Template) (is_slots : t.slots ≡ slots) (is_dead : t.dead ≡ dead) where
    operand_fits : (p : OpParts) (operand : Operand) (moves : Bool) (size : ℕ) → p.width ≡ size → p.moves ≡ moves → IsShort operand → AreUsable (operand_registers (Some operand)) → IsOperandFor t p (Some operand) → Fits moves size operand
    operand_fits p (Reg r) moves size w v short usable is = usable_named slots r usable.0
    operand_fits p (Abs o) moves size w v short usable is = subst (λ n. IsHome slots o n) w (subst (λ l. IsHome l o p.width) is_slots is.0)
    operand_fits p (Base b d) moves size w v short usable is = (sym v ∙ is, usable_named slots b usable.0, short)
    operand_fits p (Pair b x s d) moves size w v short usable is = (sym v ∙ is, usable_named slots b usable.0, usable_named slots x usable.1.0, short.0, short.1)

    operand_kept : (p : OpParts) (operand : Operand) (size : ℕ) → p.width ≡ size → IsTrue p.written → IsOperandFor t p (Some operand) → Kept size operand
    operand_kept p (Reg r) size w written is = tt
    operand_kept p (Abs o) size w written is = subst (λ n. IsKept dead o n) w (subst (λ l. IsKept l o p.width) is_dead (is.1 written))
    operand_kept p (Base b d) size w written is = tt
    operand_kept p (Pair b x s d) size w written is = tt

    sum_fits : (operand : Operand) → IsSum operand → AreUsable (operand_registers (Some operand)) → FitsSum operand
    sum_fits (Reg r) is usable = absurd is
    sum_fits (Abs o) is usable = absurd is
    sum_fits (Base b d) is usable = (usable_named slots b usable.0, is.1)
    sum_fits (Pair b x s d) is usable = (usable_named slots b usable.0, usable_named slots x usable.1.0, is.2, is.3)

    other : (operand : Operand) (r : ℕ) → AreUsable (operand_registers (Some operand) ++ (r ∷ [])) → IsNamed slots r
    other operand r is = usable_named slots r (right_usable (operand_registers (Some operand)) (r ∷ []) is).0

    first : (operand : Operand) (rs : List ℕ) → AreUsable (operand_registers (Some operand) ++ rs) → AreUsable (operand_registers (Some operand))
    first operand rs is = left_usable (operand_registers (Some operand)) rs is

    -- an op of a body fits
    pub op_fits : (op : Op) → is_straight op ≡ true → IsInProfile op → AreUsable (registers op) → IsOperandFor t (parts op) (parts op).operand → FitsOp op
    unfolding is_straight parts
    op_fits (AluTo op to from) straight profile usable is = record { x = (four, operand_fits (parts (AluTo op to from)) to false 4 refl refl (spelt_short to profile.0) (first to (from ∷ []) usable) is); y = (four, other to from usable); to = alu_fits op to (operand_fits (parts (AluTo op to from)) to false 4 refl refl (spelt_short to profile.0) (first to (from ∷ []) usable) is) (λ w. operand_kept (parts (AluTo op to from)) to 4 refl w is) }
    op_fits (AluFrom op to from) straight profile usable is = record { x = (four, other from to usable); y = (four, operand_fits (parts (AluFrom op to from)) from false 4 refl refl (memory_short from profile.1) (first from (to ∷ []) usable) is); to = alu_fits op (Reg to) (other from to usable) (λ w. tt) }
    op_fits (AluImm op to imm) straight profile usable is = record { x = (four, operand_fits (parts (AluImm op to imm)) to false 4 refl refl (spelt_short to profile.0) (first to ([]) usable) is); y = profile.1; to = alu_fits op to (operand_fits (parts (AluImm op to imm)) to false 4 refl refl (spelt_short to profile.0) (first to ([]) usable) is) (λ w. operand_kept (parts (AluImm op to imm)) to 4 refl w is) }
    op_fits (TestReg a b) straight profile usable is = record { x = (four, operand_fits (parts (TestReg a b)) a false 4 refl refl (spelt_short a profile.0) (first a (b ∷ []) usable) is); y = (four, other a b usable); to = tt }
    op_fits (TestImm a imm) straight profile usable is = record { x = (four, operand_fits (parts (TestImm a imm)) a false 4 refl refl (spelt_short a profile.0) (first a ([]) usable) is); y = profile.1; to = tt }
    op_fits (Unary Not on) straight profile usable is = record { x = tt; y = (four, operand_fits (parts (Unary Not on)) on false 4 refl refl (spelt_short on profile) (first on ([]) usable) is); to = (four, operand_fits (parts (Unary Not on)) on false 4 refl refl (spelt_short on profile) (first on ([]) usable) is, operand_kept (parts (Unary Not on)) on 4 refl refl is) }
    op_fits (Unary Neg on) straight profile usable is = record { x = tt; y = (four, operand_fits (parts (Unary Neg on)) on false 4 refl refl (spelt_short on profile) (first on ([]) usable) is); to = (four, operand_fits (parts (Unary Neg on)) on false 4 refl refl (spelt_short on profile) (first on ([]) usable) is, operand_kept (parts (Unary Neg on)) on 4 refl refl is) }
    op_fits (Unary Mul on) straight profile usable is = record { x = (four, inl (omega arith)); y = (four, operand_fits (parts (Unary Mul on)) on false 4 refl refl (spelt_short on profile) (first on ([]) usable) is); to = tt }
    op_fits (Unary Imul1 on) straight profile usable is = record { x = (four, inl (omega arith)); y = (four, operand_fits (parts (Unary Imul1 on)) on false 4 refl refl (spelt_short on profile) (first on ([]) usable) is); to = tt }
    op_fits (Imul to from) straight profile usable is = record { x = (four, other from to usable); y = (four, operand_fits (parts (Imul to from)) from false 4 refl refl (spelt_short from profile.1) (first from (to ∷ []) usable) is); to = (four, other from to usable, tt) }
    op_fits (MovTo to from) straight profile usable is = record { x = tt; y = (four, other to from usable); to = (four, operand_fits (parts (MovTo to from)) to true 4 refl refl (spelt_short to profile.0) (first to (from ∷ []) usable) is, operand_kept (parts (MovTo to from)) to 4 refl refl is) }
    op_fits (MovFrom to from) straight profile usable is = record { x = tt; y = (four, operand_fits (parts (MovFrom to from)) from true 4 refl refl (memory_short from profile.1) (first from (to ∷ []) usable) is); to = (four, other from to usable, tt) }
    op_fits (MovImm to imm) straight profile usable is = record { x = tt; y = profile.1; to = (four, usable_named slots to usable.0, tt) }
    op_fits (MovToImm to imm) straight profile usable is = record { x = tt; y = profile.1; to = (four, operand_fits (parts (MovToImm to imm)) to true 4 refl refl (memory_short to profile.0) (first to ([]) usable) is, operand_kept (parts (MovToImm to imm)) to 4 refl refl is) }
    op_fits (MovHalfTo to from) straight profile usable is = record { x = tt; y = (four, other to from usable); to = (two, operand_fits (parts (MovHalfTo to from)) to true 2 refl refl (memory_short to profile.0) (first to (from ∷ []) usable) is, operand_kept (parts (MovHalfTo to from)) to 2 refl refl is) }
    op_fits (MovByteTo to from) straight profile usable is = record { x = tt; y = (four, other to from usable); to = (one, operand_fits (parts (MovByteTo to from)) to true 1 refl refl (memory_short to profile.0) (first to (from ∷ []) usable) is, operand_kept (parts (MovByteTo to from)) to 1 refl refl is) }
    op_fits (MovByteFrom to from) straight profile usable is = record { x = tt; y = (one, operand_fits (parts (MovByteFrom to from)) from true 1 refl refl (memory_short from profile.1) (first from (to ∷ []) usable) is); to = (other from to usable, tt) }
    op_fits (Shift op to by) straight profile usable is = record { x = (four, operand_fits (parts (Shift op to by)) to false 4 refl refl (spelt_short to profile.0) (first to ([]) usable) is); y = let l = profile.1 in omega (arith, l); to = (four, operand_fits (parts (Shift op to by)) to false 4 refl refl (spelt_short to profile.0) (first to ([]) usable) is, operand_kept (parts (Shift op to by)) to 4 refl refl is) }
    op_fits (ShiftByCl op to) straight profile usable is = record { x = (four, operand_fits (parts (ShiftByCl op to)) to false 4 refl refl (spelt_short to profile) (first to ([]) usable) is); y = tt; to = (four, operand_fits (parts (ShiftByCl op to)) to false 4 refl refl (spelt_short to profile) (first to ([]) usable) is, operand_kept (parts (ShiftByCl op to)) to 4 refl refl is) }
    op_fits (Lea to from) straight profile usable is = record { x = tt; y = sum_fits from profile.1 (first from (to ∷ []) usable); to = (four, other from to usable, tt) }
    op_fits (Extend MovzxByte to from) straight profile usable is = record { x = tt; y = (one, operand_fits (parts (Extend MovzxByte to from)) from true 1 refl refl (byte_short from profile.1) (first from (to ∷ []) usable) is); to = (four, other from to usable, tt) }
    op_fits (Extend MovzxHalf to from) straight profile usable is = record { x = tt; y = (two, operand_fits (parts (Extend MovzxHalf to from)) from true 2 refl refl (spelt_short from profile.1) (first from (to ∷ []) usable) is); to = (four, other from to usable, tt) }
    op_fits (Extend MovsxByte to from) straight profile usable is = record { x = tt; y = (one, operand_fits (parts (Extend MovsxByte to from)) from true 1 refl refl (byte_short from profile.1) (first from (to ∷ []) usable) is); to = (four, other from to usable, tt) }
    op_fits (Extend MovsxHalf to from) straight profile usable is = record { x = tt; y = (two, operand_fits (parts (Extend MovsxHalf to from)) from true 2 refl refl (spelt_short from profile.1) (first from (to ∷ []) usable) is); to = (four, other from to usable, tt) }
    op_fits (Bswap reg) straight profile usable is = record { x = tt; y = (four, usable_named slots reg usable.0); to = (four, usable_named slots reg usable.0, tt) }
    op_fits (Set condition to) straight profile usable is = record { x = tt; y = tt; to = (operand_fits (parts (Set condition to)) to false 1 refl refl (byte_short to profile) (first to ([]) usable) is, operand_kept (parts (Set condition to)) to 1 refl refl is) }
    op_fits (Cmov condition to from) straight profile usable is = record { x = (four, other from to usable); y = (four, operand_fits (parts (Cmov condition to from)) from false 4 refl refl (spelt_short from profile.1) (first from (to ∷ []) usable) is); to = (four, other from to usable, tt) }
    op_fits (Bsr to from) straight profile usable is = record { x = (four, other from to usable); y = (four, operand_fits (parts (Bsr to from)) from false 4 refl refl (spelt_short from profile.1) (first from (to ∷ []) usable) is); to = (four, other from to usable, tt) }
    op_fits Cdq straight profile usable is = record { x = (four, inl (omega arith)); y = tt; to = tt }
    op_fits (Unary Div on) straight profile usable is = absurd cc
    op_fits (Unary Idiv on) straight profile usable is = absurd cc
    op_fits (Jcc condition rel) straight profile usable is = absurd cc
    op_fits (Jmp rel) straight profile usable is = absurd cc
    op_fits (JmpTo to) straight profile usable is = absurd cc
    op_fits Int80 straight profile usable is = absurd cc
    op_fits Int3 straight profile usable is = absurd cc
    op_fits Ud2 straight profile usable is = absurd cc
