-- The types of the crate and their variants, for one `use` line.
pub use Rattle.ia_codec.specs.declared.bytes.Bytes12.{Bytes12}
pub use Rattle.ia_codec.specs.declared.op.AluOp.{AluOp}
pub use Rattle.ia_codec.specs.declared.op.AluOp.TheVariants.{Adc, Add, And, Cmp, Or, Sbb, Sub, Xor}
pub use Rattle.ia_codec.specs.declared.op.Condition.{Condition}
pub use Rattle.ia_codec.specs.declared.op.Condition.TheVariants.{Above, Below, Equal, Greater, Less, NotAbove, NotBelow, NotEqual, NotGreater, NotLess, NotSign, Sign}
pub use Rattle.ia_codec.specs.declared.op.ExtendOp.{ExtendOp}
pub use Rattle.ia_codec.specs.declared.op.ExtendOp.TheVariants.{MovsxByte, MovsxHalf, MovzxByte, MovzxHalf}
pub use Rattle.ia_codec.specs.declared.op.Op.{Op}
pub use Rattle.ia_codec.specs.declared.op.Op.TheVariants.{AluFrom, AluImm, AluTo, Bsr, Bswap, Cdq, Cmov, Extend, Imul, Int3, Int80, Jcc, Jmp, JmpTo, Lea, MovByteFrom, MovByteTo, MovFrom, MovHalfTo, MovImm, MovTo, MovToImm, Set, Shift, ShiftByCl, TestImm, TestReg, Ud2, Unary}
pub use Rattle.ia_codec.specs.declared.op.Operand.{Operand}
pub use Rattle.ia_codec.specs.declared.op.Operand.TheVariants.{Abs, Base, Pair, Reg}
pub use Rattle.ia_codec.specs.declared.op.ShiftOp.{ShiftOp}
pub use Rattle.ia_codec.specs.declared.op.ShiftOp.TheVariants.{Rol, Ror, Sar, Shl, Shr}
pub use Rattle.ia_codec.specs.declared.op.UnaryOp.{UnaryOp}
pub use Rattle.ia_codec.specs.declared.op.UnaryOp.TheVariants.{Div, Idiv, Imul1, Mul, Neg, Not}
