-- The price of an op, this project's own: 1, 2 more for each memory operand, and what its work takes besides.
use Rattle.std.specs.Prelude.{ℕ, ◌+◌, ◌*◌}
use Rattle.ia_codec.specs.Types.{Operand, Reg, Mul, Imul1, Div, Idiv, Op, AluTo, AluFrom, AluImm, TestReg, TestImm, Unary, Imul, MovTo, MovFrom, MovToImm, MovHalfTo, MovByteTo, MovByteFrom, Shift, ShiftByCl, Extend, Set, Cmov, Bsr, JmpTo}

-- how many of the operands are in memory
abbrev pub in_memory : Operand → ℕ
in_memory (Reg m) = 0
in_memory _ = 1

-- how many memory operands an op has; lea has an address, and nothing at it is read or written
abbrev pub memory_operands : Op → ℕ
memory_operands (AluTo op to from) = in_memory to
memory_operands (AluFrom op to from) = in_memory from
memory_operands (AluImm op to imm) = in_memory to
memory_operands (TestReg a b) = in_memory a
memory_operands (TestImm a imm) = in_memory a
memory_operands (Unary op on) = in_memory on
memory_operands (Imul to from) = in_memory from
memory_operands (MovTo to from) = in_memory to
memory_operands (MovFrom to from) = in_memory from
memory_operands (MovToImm to imm) = in_memory to
memory_operands (MovHalfTo to from) = in_memory to
memory_operands (MovByteTo to from) = in_memory to
memory_operands (MovByteFrom to from) = in_memory from
memory_operands (Shift op to by) = in_memory to
memory_operands (ShiftByCl op to) = in_memory to
memory_operands (Extend op to from) = in_memory from
memory_operands (Set condition to) = in_memory to
memory_operands (Cmov condition to from) = in_memory from
memory_operands (Bsr to from) = in_memory from
memory_operands (JmpTo to) = in_memory to
memory_operands _ = 0

-- 2 more for mul, imul1 and imul, 19 more for div and idiv
abbrev pub work : Op → ℕ
work (Unary Mul on) = 2
work (Unary Imul1 on) = 2
work (Imul to from) = 2
work (Unary Div on) = 19
work (Unary Idiv on) = 19
work _ = 0

abbrev pub cost_of : Op → ℕ
cost_of op = 1 + 2 * memory_operands op + work op
