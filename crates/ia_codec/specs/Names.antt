-- The name of an op: the mnemonic of the Intel SDM, volume 2, with cc for any condition. Of this project's own are imul1
-- (imul of one operand), jmpi (jmp to an operand's value) and int80 (int 0x80).
use Rattle.std.specs.Prelude.{ℕ, List, codes}
use Rattle.ia_codec.specs.Types.{AluOp, Add, Or, Adc, Sbb, And, Sub, Xor, Cmp, ShiftOp, Rol, Ror, Shl, Shr, Sar, UnaryOp, Not, Neg, Mul, Imul1, Div, Idiv, ExtendOp, MovzxByte, MovzxHalf, MovsxByte, MovsxHalf, Op, AluTo, AluFrom, AluImm, TestReg, TestImm, Unary, Imul, MovTo, MovFrom, MovImm, MovToImm, MovHalfTo, MovByteTo, MovByteFrom, Shift, ShiftByCl, Lea, Extend, Bswap, Set, Cmov, Bsr, Cdq, Jcc, Jmp, JmpTo, Int80, Int3, Ud2}

abbrev pub alu_name : AluOp → List ℕ
alu_name Add = codes "add"
alu_name Or = codes "or"
alu_name Adc = codes "adc"
alu_name Sbb = codes "sbb"
alu_name And = codes "and"
alu_name Sub = codes "sub"
alu_name Xor = codes "xor"
alu_name Cmp = codes "cmp"

abbrev pub shift_name : ShiftOp → List ℕ
shift_name Rol = codes "rol"
shift_name Ror = codes "ror"
shift_name Shl = codes "shl"
shift_name Shr = codes "shr"
shift_name Sar = codes "sar"

abbrev pub unary_name : UnaryOp → List ℕ
unary_name Not = codes "not"
unary_name Neg = codes "neg"
unary_name Mul = codes "mul"
unary_name Imul1 = codes "imul1"
unary_name Div = codes "div"
unary_name Idiv = codes "idiv"

abbrev pub extend_name : ExtendOp → List ℕ
extend_name MovzxByte = codes "movzx"
extend_name MovzxHalf = codes "movzx"
extend_name MovsxByte = codes "movsx"
extend_name MovsxHalf = codes "movsx"

abbrev pub name_of : Op → List ℕ
name_of (AluTo op to from) = alu_name op
name_of (AluFrom op to from) = alu_name op
name_of (AluImm op to imm) = alu_name op
name_of (TestReg a b) = codes "test"
name_of (TestImm a imm) = codes "test"
name_of (Unary op on) = unary_name op
name_of (Imul to from) = codes "imul"
name_of (MovTo to from) = codes "mov"
name_of (MovFrom to from) = codes "mov"
name_of (MovImm to imm) = codes "mov"
name_of (MovToImm to imm) = codes "mov"
name_of (MovHalfTo to from) = codes "mov"
name_of (MovByteTo to from) = codes "mov"
name_of (MovByteFrom to from) = codes "mov"
name_of (Shift op to by) = shift_name op
name_of (ShiftByCl op to) = shift_name op
name_of (Lea to from) = codes "lea"
name_of (Extend op to from) = extend_name op
name_of (Bswap reg) = codes "bswap"
name_of (Set condition to) = codes "setcc"
name_of (Cmov condition to from) = codes "cmovcc"
name_of (Bsr to from) = codes "bsr"
name_of Cdq = codes "cdq"
name_of (Jcc condition rel) = codes "jcc"
name_of (Jmp rel) = codes "jmp"
name_of (JmpTo to) = codes "jmpi"
name_of Int80 = codes "int80"
name_of Int3 = codes "int3"
name_of Ud2 = codes "ud2"
