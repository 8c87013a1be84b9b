-- The rows of the ops, over whole numbers: what each makes of the values that it reads.
-- Meanings are those of the Intel SDM, volume 2, under the op's name. Words are below 2^32. Of the flags there are CF,
-- ZF, SF and OF alone, which is this project's own.
--
-- The values: `x` is the old value of an operand that is read and written, and eax in mul, imul1, div, idiv and cdq;
-- `y` that of the other operand, which is the immediate, cl, the address of lea, or the only operand of not, neg,
-- bswap and jmp; `high` is edx. A result of one or two bytes is these bytes alone: the machine puts them where they
-- go, and leaves the bytes above them as they are.
use Rattle.std.specs.Prelude.{◌%◌, true, false, cond, bit_and, bit_or, bit_xor}
use Rattle.ia_codec.specs.Types.{AluOp, Add, Or, Adc, Sbb, And, Sub, Xor, Cmp, UnaryOp, Not, Neg, Mul, Imul1, Div, Idiv, MovzxByte, Op, AluTo, AluFrom, AluImm, TestReg, TestImm, Unary, Imul, MovTo, MovFrom, MovImm, MovToImm, MovHalfTo, MovByteTo, MovByteFrom, Shift, ShiftByCl, Lea, Extend, Bswap, Set, Cmov, Bsr, Cdq, Jcc, Jmp, JmpTo, Int80, Int3, Ud2}
use Rattle.word_kit.specs.Prelude.{complement}
pub use Rattle.word_kit.specs.Words.{is_negative, same, one_if, sum_word, sum_carries, difference_word}
use Rattle.ia_codec.specs.Effect.{HostValues, HostEffect, unchanged}
pub use Rattle.ia_codec.specs.Sums.{sum_flags, difference_flags, gives}
pub use Rattle.ia_codec.specs.Logic.{logic_flags}
pub use Rattle.ia_codec.specs.Shifts.{shift_row}
pub use Rattle.ia_codec.specs.Products.{sign_copies, mul_row, imul1_row, imul_row}
pub use Rattle.ia_codec.specs.Divisions.{divide_row}
pub use Rattle.ia_codec.specs.Moves.{extended, swapped}
pub use Rattle.ia_codec.specs.Scan.{scan_row}
pub use Rattle.ia_codec.specs.Conditions.{condition_holds}

abbrev pub alu_row : AluOp → HostValues → HostEffect
alu_row Add v = gives (sum_word v.x v.y false) (sum_flags v.x v.y false) v
alu_row Adc v = gives (sum_word v.x v.y v.flags.cf) (sum_flags v.x v.y v.flags.cf) v
alu_row Sub v = gives (difference_word v.x v.y false) (difference_flags v.x v.y false) v
alu_row Sbb v = gives (difference_word v.x v.y v.flags.cf) (difference_flags v.x v.y v.flags.cf) v
alu_row And v = gives (bit_and v.x v.y) (logic_flags (bit_and v.x v.y)) v
alu_row Or v = gives (bit_or v.x v.y) (logic_flags (bit_or v.x v.y)) v
alu_row Xor v = gives (bit_xor v.x v.y) (logic_flags (bit_xor v.x v.y)) v
-- as sub, but with no result
alu_row Cmp v = gives v.x (difference_flags v.x v.y false) v

-- as and, but with no result
abbrev pub test_row : HostValues → HostEffect
test_row v = gives v.x (logic_flags (bit_and v.x v.y)) v

abbrev pub unary_row : UnaryOp → HostValues → HostEffect
unary_row Not v = gives (complement v.y) v.flags v
-- 0 minus the operand
unary_row Neg v = gives (difference_word 0 v.y false) (difference_flags 0 v.y false) v
unary_row Mul v = mul_row v
unary_row Imul1 v = imul1_row v
unary_row Div v = divide_row false v
unary_row Idiv v = divide_row true v

abbrev pub host_row : Op → HostValues → HostEffect
host_row (AluTo op to from) v = alu_row op v
host_row (AluFrom op to from) v = alu_row op v
host_row (AluImm op to imm) v = alu_row op v
host_row (TestReg a b) v = test_row v
host_row (TestImm a imm) v = test_row v
host_row (Unary op on) v = unary_row op v
host_row (Imul to from) v = imul_row v
host_row (MovTo to from) v = gives v.y v.flags v
host_row (MovFrom to from) v = gives v.y v.flags v
host_row (MovImm to imm) v = gives v.y v.flags v
host_row (MovToImm to imm) v = gives v.y v.flags v
-- the low half or byte of a register, or a byte of memory
host_row (MovHalfTo to from) v = gives (v.y % 65536) v.flags v
host_row (MovByteTo to from) v = gives (v.y % 256) v.flags v
host_row (MovByteFrom to from) v = gives (v.y % 256) v.flags v
host_row (Shift op to by) v = shift_row op by v
host_row (ShiftByCl op to) v = shift_row op v.y v
host_row (Lea to from) v = gives v.y v.flags v
-- a byte with zeros above it
host_row (Extend MovzxByte to from) v = gives (v.y % 256) v.flags v
host_row (Extend op to from) v = gives (extended op v.y) v.flags v
host_row (Bswap reg) v = gives (swapped v.y) v.flags v
host_row (Set condition to) v = record (unchanged v) { result = one_if (condition_holds condition v.flags); holds = condition_holds condition v.flags }
host_row (Cmov condition to from) v = record (unchanged v) { result = cond (condition_holds condition v.flags) v.y v.x; holds = condition_holds condition v.flags }
host_row (Bsr to from) v = scan_row v
host_row Cdq v = record (unchanged v) { high = sign_copies v.x }
host_row (Jcc condition rel) v = record (unchanged v) { holds = condition_holds condition v.flags }
host_row (Jmp rel) v = record (unchanged v) { holds = true }
host_row (JmpTo to) v = record (unchanged v) { holds = true }
host_row Int80 v = unchanged v
host_row Int3 v = unchanged v
host_row Ud2 v = unchanged v
