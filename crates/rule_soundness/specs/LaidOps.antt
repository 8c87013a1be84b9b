-- The ops of a rule's body where it is laid. This project's own.
use Rattle.std.specs.Prelude.{ℕ, ◌+◌, ◌*◌, ◌/◌, ◌%◌, ◌==◌, ◌||◌, nat_lt, if◌then◌else◌, List, map, Option, Some, None}
use Rattle.machines.specs.Prelude.{Operand, Reg, Abs, Base, Pair, Op, AluTo, AluFrom, AluImm, TestReg, TestImm, Unary, Imul, MovTo, MovFrom, MovImm, MovToImm, MovHalfTo, MovByteTo, MovByteFrom, Shift, ShiftByCl, Lea, Extend, Bswap, Set, Cmov, Bsr, ebx, esi, edi}
use Rattle.rule_body.specs.declared.body.Body.{Body}
use Rattle.rule_body.specs.declared.line.Hole.{Hole}
use Rattle.rule_body.specs.declared.line.HostLine.{HostLine}
use Rattle.rule_body.specs.Prelude.{hole_value, lines_of}
use Rattle.rule_soundness.specs.Matches.{Match}

-- eax, ecx and edx stay
abbrev pub register_of : Match → ℕ → ℕ
register_of m r = if r == ebx || r == esi || r == edi then m.register r else r

-- In a body the home of parameter p stands at 4 * p, and it becomes that of its GPR. From 128 on stand the homes of the other
-- locations, which stay.
abbrev pub offset_of : Match → ℕ → ℕ
offset_of m offset = if nat_lt offset 128 then 4 * m.gpr (offset / 4) + offset % 4 else offset

abbrev pub placed_operand : Match → Operand → Operand
placed_operand m (Reg r) = Reg (register_of m r)
placed_operand m (Abs offset) = Abs (offset_of m offset)
placed_operand m (Base b d) = Base (register_of m b) d
placed_operand m (Pair b x s d) = Pair (register_of m b) (register_of m x) s d

-- an op with the registers and homes of the match
abbrev pub placed : Match → Op → Op
placed m (AluTo op to from) = AluTo op (placed_operand m to) (register_of m from)
placed m (AluFrom op to from) = AluFrom op (register_of m to) (placed_operand m from)
placed m (AluImm op to imm) = AluImm op (placed_operand m to) imm
placed m (TestReg a b) = TestReg (placed_operand m a) (register_of m b)
placed m (TestImm a imm) = TestImm (placed_operand m a) imm
placed m (Unary op on) = Unary op (placed_operand m on)
placed m (Imul to from) = Imul (register_of m to) (placed_operand m from)
placed m (MovTo to from) = MovTo (placed_operand m to) (register_of m from)
placed m (MovFrom to from) = MovFrom (register_of m to) (placed_operand m from)
placed m (MovImm to imm) = MovImm (register_of m to) imm
placed m (MovToImm to imm) = MovToImm (placed_operand m to) imm
placed m (MovHalfTo to from) = MovHalfTo (placed_operand m to) (register_of m from)
placed m (MovByteTo to from) = MovByteTo (placed_operand m to) (register_of m from)
placed m (MovByteFrom to from) = MovByteFrom (register_of m to) (placed_operand m from)
placed m (Shift op to by) = Shift op (placed_operand m to) by
placed m (ShiftByCl op to) = ShiftByCl op (placed_operand m to)
placed m (Lea to from) = Lea (register_of m to) (placed_operand m from)
placed m (Extend op to from) = Extend op (register_of m to) (placed_operand m from)
placed m (Bswap reg) = Bswap (register_of m reg)
placed m (Set condition to) = Set condition (placed_operand m to)
placed m (Cmov condition to from) = Cmov condition (register_of m to) (placed_operand m from)
placed m (Bsr to from) = Bsr (register_of m to) (placed_operand m from)
placed m op = op

-- with a displacement
abbrev pub displaced : ℕ → Operand → Operand
displaced c (Base b d) = Base b c
displaced c (Pair b x s d) = Pair b x s c
displaced c operand = operand

-- with a number in the place of its immediate, or else of its displacement
abbrev pub filled_op : ℕ → Op → Op
filled_op c (AluImm op to imm) = AluImm op to c
filled_op c (TestImm a imm) = TestImm a c
filled_op c (MovTo to from) = MovTo (displaced c to) from
filled_op c (MovFrom to from) = MovFrom to (displaced c from)
filled_op c (MovImm to imm) = MovImm to c
filled_op c (MovToImm to imm) = MovToImm to c
filled_op c (MovHalfTo to from) = MovHalfTo (displaced c to) from
filled_op c (MovByteTo to from) = MovByteTo (displaced c to) from
filled_op c (MovByteFrom to from) = MovByteFrom to (displaced c from)
filled_op c (Lea to from) = Lea to (displaced c from)
filled_op c (Extend op to from) = Extend op to (displaced c from)
filled_op c op = op

-- with its hole filled by the constant of its word
abbrev pub filled_hole : Match → Option (Hole × ℕ) → Op → Op
filled_hole m None op = op
filled_hole m (Some (hole, j)) op = filled_op (hole_value hole (m.constant j)) op

abbrev pub laid_line : Match → HostLine → Op
laid_line m line = placed m (filled_hole m line.hole line.op)

-- the ops of the body; absolute operands are offsets in the home page
abbrev pub laid_ops : Match → Body → List Op
laid_ops m body = map (laid_line m) (lines_of body)
