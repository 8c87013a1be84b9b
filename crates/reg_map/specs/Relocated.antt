-- Tiles count absolute operands from the start of the home page; the ops that are run have addresses.
use Rattle.std.specs.Prelude.{ℕ, ◌≤◌, ◌+◌, ◌^◌}
use Rattle.machines.specs.Prelude.{IsInProfile, Operand, Reg, Abs, Base, Pair, Op, AluTo, AluFrom, AluImm, TestReg, TestImm, Unary, Imul, MovTo, MovFrom, MovImm, MovToImm, MovHalfTo, MovByteTo, MovByteFrom, Shift, ShiftByCl, Lea, Extend, Bswap, Set, Cmov, Bsr, Cdq, Jcc, Jmp, JmpTo, Int80, Int3, Ud2}

-- the operand over the home page that begins at `area`
abbrev pub operand_at : ℕ → Operand → Operand
operand_at area (Reg r) = Reg r
operand_at area (Abs offset) = Abs (area + offset)
operand_at area (Base b d) = Base b d
operand_at area (Pair b x s d) = Pair b x s d

-- the op over the home page that begins at `area`
abbrev pub op_at : ℕ → Op → Op
op_at area (AluTo op to from) = AluTo op (operand_at area to) from
op_at area (AluFrom op to from) = AluFrom op to (operand_at area from)
op_at area (AluImm op to imm) = AluImm op (operand_at area to) imm
op_at area (TestReg a b) = TestReg (operand_at area a) b
op_at area (TestImm a imm) = TestImm (operand_at area a) imm
op_at area (Unary op on) = Unary op (operand_at area on)
op_at area (Imul to from) = Imul to (operand_at area from)
op_at area (MovTo to from) = MovTo (operand_at area to) from
op_at area (MovFrom to from) = MovFrom to (operand_at area from)
op_at area (MovImm to imm) = MovImm to imm
op_at area (MovToImm to imm) = MovToImm (operand_at area to) imm
op_at area (MovHalfTo to from) = MovHalfTo (operand_at area to) from
op_at area (MovByteTo to from) = MovByteTo (operand_at area to) from
op_at area (MovByteFrom to from) = MovByteFrom to (operand_at area from)
op_at area (Shift op to by) = Shift op (operand_at area to) by
op_at area (ShiftByCl op to) = ShiftByCl op (operand_at area to)
op_at area (Lea to from) = Lea to (operand_at area from)
op_at area (Extend op to from) = Extend op to (operand_at area from)
op_at area (Bswap reg) = Bswap reg
op_at area (Set condition to) = Set condition (operand_at area to)
op_at area (Cmov condition to from) = Cmov condition to (operand_at area from)
op_at area (Bsr to from) = Bsr to (operand_at area from)
op_at area Cdq = Cdq
op_at area (Jcc condition rel) = Jcc condition rel
op_at area (Jmp rel) = Jmp rel
op_at area (JmpTo to) = JmpTo (operand_at area to)
op_at area Int80 = Int80
op_at area Int3 = Int3
op_at area Ud2 = Ud2

-- the op is in the profile over each home page, which has 4096 bytes: its absolute operands are offsets of the page
abbrev pub IsPlaceable : Op → Type 0
IsPlaceable op = (area : ℕ) → area + 4096 ≤ 2 ^ 32 → IsInProfile (op_at area op)
