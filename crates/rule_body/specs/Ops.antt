-- The parts of an op: its operand, its other register, what it accesses, and its immediate.
use Rattle.std.specs.Prelude.{ℕ, List, [], ◌∷◌, ◌++◌, ◌&&◌, Bool, true, false, not, Option, Some, None}
use Rattle.ia_codec.specs.declared.op.Operand.{Operand}
use Rattle.ia_codec.specs.declared.op.Operand.TheVariants.{Reg, Abs, Base, Pair}
use Rattle.ia_codec.specs.declared.op.AluOp.{AluOp}
use Rattle.ia_codec.specs.declared.op.AluOp.TheVariants.{Cmp}
use Rattle.ia_codec.specs.declared.op.UnaryOp.{UnaryOp}
use Rattle.ia_codec.specs.declared.op.UnaryOp.TheVariants.{Not, Neg, Div, Idiv}
use Rattle.ia_codec.specs.declared.op.ExtendOp.{ExtendOp}
use Rattle.ia_codec.specs.declared.op.ExtendOp.TheVariants.{MovzxByte, MovzxHalf, MovsxByte, MovsxHalf}
use Rattle.ia_codec.specs.declared.op.Op.{Op}
use Rattle.ia_codec.specs.declared.op.Op.TheVariants.{AluTo, AluFrom, AluImm, TestReg, TestImm, Unary, Imul, MovTo, MovFrom, MovImm, MovToImm, MovHalfTo, MovByteTo, MovByteFrom, Shift, ShiftByCl, Lea, Extend, Bswap, Set, Cmov, Bsr, Jcc, Jmp, JmpTo, Int80, Int3, Ud2}
use Rattle.rule_body.specs.declared.operands.OpParts.{OpParts}

-- all but jumps, calls, traps and divisions
unfoldable pub is_straight : Op → Bool
is_straight (Unary Div on) = false
is_straight (Unary Idiv on) = false
is_straight (Jcc condition rel) = false
is_straight (Jmp rel) = false
is_straight (JmpTo to) = false
is_straight Int80 = false
is_straight Int3 = false
is_straight Ud2 = false
is_straight _ = true

-- cmp alone writes no operand
abbrev pub alu_writes : AluOp → Bool
alu_writes Cmp = false
alu_writes _ = true

-- not and neg write their operand; the products and divisions write eax and edx
abbrev pub unary_writes : UnaryOp → Bool
unary_writes Not = true
unary_writes Neg = true
unary_writes _ = false

-- the bytes of the operand of movzx and movsx
abbrev pub extended_width : ExtendOp → ℕ
extended_width MovzxByte = 1
extended_width MovsxByte = 1
extended_width MovzxHalf = 2
extended_width MovsxHalf = 2

-- an operand of so many bytes
abbrev pub on : Operand → ℕ → Bool → OpParts
on operand width written = record { operand = Some operand; register = None; width = width; written = written; moves = false; immediate = None }

-- the op's parts; an op without an operand accesses nothing, nor does lea
unfoldable pub parts : Op → OpParts
parts (AluTo op to from) = record (on to 4 (alu_writes op)) { register = Some from }
parts (AluFrom op to from) = record (on from 4 false) { register = Some to }
parts (AluImm op to imm) = record (on to 4 (alu_writes op)) { immediate = Some imm }
parts (TestReg a b) = record (on a 4 false) { register = Some b }
parts (TestImm a imm) = record (on a 4 false) { immediate = Some imm }
parts (Unary op operand) = on operand 4 (unary_writes op)
parts (Imul to from) = record (on from 4 false) { register = Some to }
parts (MovTo to from) = record (on to 4 true) { register = Some from; moves = true }
parts (MovFrom to from) = record (on from 4 false) { register = Some to; moves = true }
parts (MovImm to imm) = record { operand = None; register = Some to; width = 0; written = false; moves = false; immediate = Some imm }
parts (MovToImm to imm) = record (on to 4 true) { moves = true; immediate = Some imm }
parts (MovHalfTo to from) = record (on to 2 true) { register = Some from; moves = true }
parts (MovByteTo to from) = record (on to 1 true) { register = Some from; moves = true }
parts (MovByteFrom to from) = record (on from 1 false) { register = Some to; moves = true }
parts (Shift op to by) = on to 4 true
parts (ShiftByCl op to) = on to 4 true
parts (Lea to from) = record (on from 0 false) { register = Some to; moves = true }
parts (Extend op to from) = record (on from (extended_width op) false) { register = Some to; moves = true }
parts (Bswap reg) = record { operand = None; register = Some reg; width = 0; written = false; moves = false; immediate = None }
parts (Set condition to) = on to 1 true
parts (Cmov condition to from) = record (on from 4 false) { register = Some to }
parts (Bsr to from) = record (on from 4 false) { register = Some to }
parts (JmpTo to) = on to 4 false
parts _ = record { operand = None; register = None; width = 0; written = false; moves = false; immediate = None }

-- a register and a displacement, with or without an index
abbrev pub is_sum : Operand → Bool
is_sum (Reg m) = false
is_sum (Abs d) = false
is_sum (Base b d) = true
is_sum (Pair b x s d) = true

abbrev pub is_lea : Op → Bool
is_lea (Lea to from) = true
is_lea _ = false

abbrev pub holds_sum : Option Operand → Bool
holds_sum None = false
holds_sum (Some operand) = is_sum operand

-- the op accesses memory of the guest
unfoldable pub accesses : Op → Bool
accesses op = holds_sum (parts op).operand && not (is_lea op)

abbrev pub displacement : Option Operand → Option ℕ
displacement (Some (Base b d)) = Some d
displacement (Some (Pair b x s d)) = Some d
displacement _ = None

-- the number that a hole fills: the immediate, or else the displacement
abbrev pub filled_of : Option ℕ → Option ℕ → Option ℕ
filled_of (Some imm) d = Some imm
filled_of None d = d

abbrev pub filled : Op → Option ℕ
filled op = filled_of (parts op).immediate (displacement (parts op).operand)

abbrev pub operand_registers : Option Operand → List ℕ
operand_registers None = []
operand_registers (Some (Reg m)) = m ∷ []
operand_registers (Some (Abs d)) = []
operand_registers (Some (Base b d)) = b ∷ []
operand_registers (Some (Pair b x s d)) = b ∷ x ∷ []

abbrev pub register_list : Option ℕ → List ℕ
register_list None = []
register_list (Some r) = r ∷ []

-- the registers that the op names
abbrev pub registers : Op → List ℕ
registers op = operand_registers (parts op).operand ++ register_list (parts op).register
