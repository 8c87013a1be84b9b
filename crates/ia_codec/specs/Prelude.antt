-- What is cited of these specifications, for one `use` line.
pub use Rattle.ia_codec.specs.Types.{Above, Abs, Adc, Add, AluFrom, AluImm, AluOp, AluTo, And, Base, Below, Bsr, Bswap, Cdq, Cmov, Cmp, Condition, Div, Equal, Extend, ExtendOp, Greater, Idiv, Imul, Imul1, Int3, Int80, Jcc, Jmp, JmpTo, Lea, Less, MovByteFrom, MovByteTo, MovFrom, MovHalfTo, MovImm, MovTo, MovToImm, MovsxByte, MovsxHalf, MovzxByte, MovzxHalf, Mul, Neg, Not, NotAbove, NotBelow, NotEqual, NotGreater, NotLess, NotSign, Op, Operand, Or, Pair, Reg, Rol, Ror, Sar, Sbb, Set, Shift, ShiftByCl, ShiftOp, Shl, Shr, Sign, Sub, TestImm, TestReg, Ud2, Unary, UnaryOp, Xor}
pub use Rattle.ia_codec.specs.Spelling.{IsByte, IsInProfile, IsMemory, IsOperand, IsReading, IsReg, IsSpelt, IsSum, alu_number, condition_number, dword, extend_number, modrm, packed, shift_number, spelling, unary_number}
pub use Rattle.ia_codec.specs.Cost.{cost_of}
pub use Rattle.ia_codec.specs.Names.{name_of}
unfoldable pub use Rattle.ia_codec.specs.Reading.{after_0f_at, after_66_at, after_f7_at, alu_from_at, alu_imm_at, alu_of_number, alu_to_at, byte_at, condition_of_number, conditional_at, dword_at, extend_at, modrm_at, mov_to_imm_at, plain_at, plain_op, read, shift_at, shift_by_cl_at, shift_of_number, unary_of_number}
pub use Rattle.ia_codec.specs.Effect.{Flags, HostEffect, HostValues}
pub use Rattle.ia_codec.specs.Sums.{difference_flags, gives, sum_flags}
pub use Rattle.ia_codec.specs.Logic.{logic_flags}
pub use Rattle.ia_codec.specs.Shifts.{is_rotate, shift_carry, shift_flags, shift_overflow, shift_result, shift_row}
pub use Rattle.ia_codec.specs.Products.{sign_copies}
pub use Rattle.ia_codec.specs.Divisions.{divide_row}
unfoldable pub use Rattle.ia_codec.specs.Scan.{highest_one}
pub use Rattle.ia_codec.specs.Conditions.{condition_holds}
pub use Rattle.ia_codec.specs.Rows.{alu_row, host_row, test_row}
pub use Rattle.ia_codec.specs.Registers.{eax, ebx, ecx, edx}
