-- How long a spelling is.
use Rattle.std.proofs.Common.{ℕ, ◌<◌, ◌≤◌, List, [], ◌∷◌, ◌++◌, length, arith}
use Rattle.std.proofs.lemmas.List.{length-append}
use Rattle.ia_codec.specs.Prelude.{Operand, Reg, Abs, Base, Pair, Op, AluTo, AluFrom, AluImm, TestReg, TestImm, Unary, Imul, MovTo, MovFrom, MovImm, MovToImm, MovHalfTo, MovByteTo, MovByteFrom, Shift, ShiftByCl, Lea, Extend, Bswap, Set, Cmov, Bsr, Cdq, Jcc, Jmp, JmpTo, Int80, Int3, Ud2, dword, modrm, spelling, alu_number, shift_number, unary_number}

modrm_len : (n : ℕ) (m : Operand) → length (modrm n m) ≤ 6
modrm_len n (Reg m) = omega arith
modrm_len n (Abs d) = omega arith
modrm_len n (Base b d) = omega arith
modrm_len n (Pair b x s d) = omega arith

with_imm : (n : ℕ) (m : Operand) (imm : List ℕ) → length imm ≤ 4 → length (modrm n m ++ imm) ≤ 10
with_imm n m imm h = omega (arith, length-append (modrm n m) imm, modrm_len n m, h)

-- An op has one to twelve bytes.
pub length-spelling : (op : Op) → (0 < length (spelling op)) × (length (spelling op) ≤ 12)
length-spelling (AluTo op to from) = (omega arith, omega (arith, modrm_len from to))
length-spelling (AluFrom op to from) = (omega arith, omega (arith, modrm_len to from))
length-spelling (AluImm op to imm) = (omega arith, omega (arith, with_imm (alu_number op) to (dword imm) (omega arith)))
length-spelling (TestReg a b) = (omega arith, omega (arith, modrm_len b a))
length-spelling (TestImm a imm) = (omega arith, omega (arith, with_imm 0 a (dword imm) (omega arith)))
length-spelling (Unary op on) = (omega arith, omega (arith, modrm_len (unary_number op) on))
length-spelling (Imul to from) = (omega arith, omega (arith, modrm_len to from))
length-spelling (MovTo to from) = (omega arith, omega (arith, modrm_len from to))
length-spelling (MovFrom to from) = (omega arith, omega (arith, modrm_len to from))
length-spelling (MovImm to imm) = (omega arith, omega arith)
length-spelling (MovToImm to imm) = (omega arith, omega (arith, with_imm 0 to (dword imm) (omega arith)))
length-spelling (MovHalfTo to from) = (omega arith, omega (arith, modrm_len from to))
length-spelling (MovByteTo to from) = (omega arith, omega (arith, modrm_len from to))
length-spelling (MovByteFrom to from) = (omega arith, omega (arith, modrm_len to from))
length-spelling (Shift op to by) = (omega arith, omega (arith, with_imm (shift_number op) to (by ∷ []) (omega arith)))
length-spelling (ShiftByCl op to) = (omega arith, omega (arith, modrm_len (shift_number op) to))
length-spelling (Lea to from) = (omega arith, omega (arith, modrm_len to from))
length-spelling (Extend op to from) = (omega arith, omega (arith, modrm_len to from))
length-spelling (Bswap reg) = (omega arith, omega arith)
length-spelling (Set condition to) = (omega arith, omega (arith, modrm_len 0 to))
length-spelling (Cmov condition to from) = (omega arith, omega (arith, modrm_len to from))
length-spelling (Bsr to from) = (omega arith, omega (arith, modrm_len to from))
length-spelling Cdq = (omega arith, omega arith)
length-spelling (Jcc condition rel) = (omega arith, omega arith)
length-spelling (Jmp rel) = (omega arith, omega arith)
length-spelling (JmpTo to) = (omega arith, omega (arith, modrm_len 4 to))
length-spelling Int80 = (omega arith, omega arith)
length-spelling Int3 = (omega arith, omega arith)
length-spelling Ud2 = (omega arith, omega arith)
