-- The one spelling of each op of the profile.
-- Opcodes, the bytes ModRM and SIB, displacements and immediates are those of the Intel SDM, volume 2: sections 2.1.3
-- and 2.1.5 (tables 2-2 and 2-3, addressing with 32 bits) and the opcode maps of appendix A. Which ops, operands and
-- encodings are in the profile is this project's own: of several encodings of one op it has one.
use Rattle.std.specs.Prelude.{ℕ, ◌≡◌, ◌≢◌, ◌+◌, ◌*◌, ◌^◌, ◌<◌, ◌≤◌, List, [], ◌∷◌, ◌++◌, take, drop, length, All, Option, Some, ◌↔◌}
use Rattle.std.specs.Int.{w32, to_le_bytes}
use Rattle.ia_codec.specs.Types.{Operand, Reg, Abs, Base, Pair, AluOp, Add, Or, Adc, Sbb, And, Sub, Xor, Cmp, ShiftOp, Rol, Ror, Shl, Shr, Sar, UnaryOp, Not, Neg, Mul, Imul1, Div, Idiv, ExtendOp, MovzxByte, MovzxHalf, MovsxByte, MovsxHalf, Condition, Below, NotBelow, Equal, NotEqual, NotAbove, Above, Sign, NotSign, Less, NotLess, NotGreater, Greater, Op, AluTo, AluFrom, AluImm, TestReg, TestImm, Unary, Imul, MovTo, MovFrom, MovImm, MovToImm, MovHalfTo, MovByteTo, MovByteFrom, Shift, ShiftByCl, Lea, Extend, Bswap, Set, Cmov, Bsr, Cdq, Jcc, Jmp, JmpTo, Int80, Int3, Ud2, Bytes12}

-- the bytes that count
abbrev pub shown : Bytes12 → List ℕ
shown b = take b.len b.bytes

-- nothing but zeros stands past them
abbrev pub IsClear : Bytes12 → Type 0
IsClear b = All (λ (x : ℕ). x ≡ 0) (drop b.len b.bytes)

-- The numbers in the middle of ModRM, or in the opcode, that tell ops of one encoding apart (appendix A, opcode
-- extensions in table A-6: group 1 for 81, group 2 for C1 and D3, group 3 for F7). There test has 0 in F7, mov 0 in C7
-- and jmp 4 in FF.
abbrev pub alu_number : AluOp → ℕ
alu_number Add = 0
alu_number Or = 1
alu_number Adc = 2
alu_number Sbb = 3
alu_number And = 4
alu_number Sub = 5
alu_number Xor = 6
alu_number Cmp = 7

abbrev pub shift_number : ShiftOp → ℕ
shift_number Rol = 0
shift_number Ror = 1
shift_number Shl = 4
shift_number Shr = 5
shift_number Sar = 7

abbrev pub unary_number : UnaryOp → ℕ
unary_number Not = 2
unary_number Neg = 3
unary_number Mul = 4
unary_number Imul1 = 5
unary_number Div = 6
unary_number Idiv = 7

-- the second opcode byte, after 0F
abbrev pub extend_number : ExtendOp → ℕ
extend_number MovzxByte = 0xb6
extend_number MovzxHalf = 0xb7
extend_number MovsxByte = 0xbe
extend_number MovsxHalf = 0xbf

-- the field tttn of Jcc, SETcc and CMOVcc (appendix B); overflow and parity, 0, 1, 10 and 11, are not in the profile
abbrev pub condition_number : Condition → ℕ
condition_number Below = 2
condition_number NotBelow = 3
condition_number Equal = 4
condition_number NotEqual = 5
condition_number NotAbove = 6
condition_number Above = 7
condition_number Sign = 8
condition_number NotSign = 9
condition_number Less = 0xc
condition_number NotLess = 0xd
condition_number NotGreater = 0xe
condition_number Greater = 0xf

-- a number of 32 bits, its lowest byte first: a displacement or an immediate
abbrev pub dword : ℕ → List ℕ
dword n = to_le_bytes w32 n

-- ModRM (mod, reg, r/m) and SIB (scale, index, base) are a byte of two, three and three bits
abbrev pub packed : ℕ → ℕ → ℕ → ℕ
packed top middle low = top * 64 + middle * 8 + low

-- the byte ModRM with a number in its middle, and the SIB byte and displacement of its operand
abbrev pub modrm : ℕ → Operand → List ℕ
modrm n (Reg m) = packed 3 n m ∷ []
modrm n (Abs d) = packed 0 n 5 ∷ dword d
modrm n (Base b d) = packed 2 n b ∷ dword d
modrm n (Pair b x s d) = packed 2 n 4 ∷ packed s x b ∷ dword d

abbrev pub spelling : Op → List ℕ
spelling (AluTo op to from) = (alu_number op * 8 + 1) ∷ modrm from to
spelling (AluFrom op to from) = (alu_number op * 8 + 3) ∷ modrm to from
spelling (AluImm op to imm) = 0x81 ∷ (modrm (alu_number op) to ++ dword imm)
spelling (TestReg a b) = 0x85 ∷ modrm b a
spelling (TestImm a imm) = 0xf7 ∷ (modrm 0 a ++ dword imm)
spelling (Unary op on) = 0xf7 ∷ modrm (unary_number op) on
spelling (Imul to from) = 0x0f ∷ 0xaf ∷ modrm to from
spelling (MovTo to from) = 0x89 ∷ modrm from to
spelling (MovFrom to from) = 0x8b ∷ modrm to from
spelling (MovImm to imm) = (0xb8 + to) ∷ dword imm
spelling (MovToImm to imm) = 0xc7 ∷ (modrm 0 to ++ dword imm)
spelling (MovHalfTo to from) = 0x66 ∷ 0x89 ∷ modrm from to
spelling (MovByteTo to from) = 0x88 ∷ modrm from to
spelling (MovByteFrom to from) = 0x8a ∷ modrm to from
spelling (Shift op to by) = 0xc1 ∷ (modrm (shift_number op) to ++ by ∷ [])
spelling (ShiftByCl op to) = 0xd3 ∷ modrm (shift_number op) to
spelling (Lea to from) = 0x8d ∷ modrm to from
spelling (Extend op to from) = 0x0f ∷ extend_number op ∷ modrm to from
spelling (Bswap reg) = 0x0f ∷ (0xc8 + reg) ∷ []
spelling (Set condition to) = 0x0f ∷ (0x90 + condition_number condition) ∷ modrm 0 to
spelling (Cmov condition to from) = 0x0f ∷ (0x40 + condition_number condition) ∷ modrm to from
spelling (Bsr to from) = 0x0f ∷ 0xbd ∷ modrm to from
spelling Cdq = 0x99 ∷ []
spelling (Jcc condition rel) = 0x0f ∷ (0x80 + condition_number condition) ∷ dword rel
spelling (Jmp rel) = 0xe9 ∷ dword rel
spelling (JmpTo to) = 0xff ∷ modrm 4 to
spelling Int80 = 0xcd ∷ 0x80 ∷ []
spelling Int3 = 0xcc ∷ []
spelling Ud2 = 0x0f ∷ 0x0b ∷ []

-- eax 0, ecx 1, edx 2, ebx 3, esi 6, edi 7; esp 4 and ebp 5 are not in the profile
abbrev pub IsReg : ℕ → Type 0
IsReg r = (r < 8) × (r ≢ 4) × (r ≢ 5)

abbrev pub IsOperand : Operand → Type 0
IsOperand (Reg m) = IsReg m
IsOperand (Abs d) = d < 2 ^ 32
IsOperand (Base b d) = IsReg b × (d < 2 ^ 32)
IsOperand (Pair b x s d) = IsReg b × IsReg x × (s < 4) × (d < 2 ^ 32)

abbrev pub IsMemory : Operand → Type 0
IsMemory (Reg m) = ⊥
IsMemory operand = IsOperand operand

-- a base, with or without an index
abbrev pub IsSum : Operand → Type 0
IsSum (Reg m) = ⊥
IsSum (Abs d) = ⊥
IsSum operand = IsOperand operand

-- al, cl, dl or memory
abbrev pub IsByte : Operand → Type 0
IsByte (Reg m) = m < 3
IsByte operand = IsOperand operand

abbrev pub IsInProfile : Op → Type 0
IsInProfile (AluTo op to from) = IsOperand to × IsReg from
IsInProfile (AluFrom op to from) = IsReg to × IsMemory from
IsInProfile (AluImm op to imm) = IsOperand to × (imm < 2 ^ 32)
IsInProfile (TestReg a b) = IsOperand a × IsReg b
IsInProfile (TestImm a imm) = IsOperand a × (imm < 2 ^ 32)
IsInProfile (Unary op on) = IsOperand on
IsInProfile (Imul to from) = IsReg to × IsOperand from
IsInProfile (MovTo to from) = IsOperand to × IsReg from
IsInProfile (MovFrom to from) = IsReg to × IsMemory from
IsInProfile (MovImm to imm) = IsReg to × (imm < 2 ^ 32)
IsInProfile (MovToImm to imm) = IsMemory to × (imm < 2 ^ 32)
IsInProfile (MovHalfTo to from) = IsMemory to × IsReg from
IsInProfile (MovByteTo to from) = IsMemory to × (from < 3)
IsInProfile (MovByteFrom to from) = (to < 3) × IsMemory from
IsInProfile (Shift op to by) = IsOperand to × (by < 32)
IsInProfile (ShiftByCl op to) = IsOperand to
IsInProfile (Lea to from) = IsReg to × IsSum from
IsInProfile (Extend MovzxByte to from) = IsReg to × IsByte from
IsInProfile (Extend MovsxByte to from) = IsReg to × IsByte from
IsInProfile (Extend MovzxHalf to from) = IsReg to × IsOperand from
IsInProfile (Extend MovsxHalf to from) = IsReg to × IsOperand from
IsInProfile (Bswap reg) = IsReg reg
IsInProfile (Set condition to) = IsByte to
IsInProfile (Cmov condition to from) = IsReg to × IsOperand from
IsInProfile (Bsr to from) = IsReg to × IsOperand from
IsInProfile Cdq = Unit {0}
IsInProfile (Jcc condition rel) = rel < 2 ^ 32
IsInProfile (Jmp rel) = rel < 2 ^ 32
IsInProfile (JmpTo to) = IsOperand to
IsInProfile Int80 = Unit {0}
IsInProfile Int3 = Unit {0}
IsInProfile Ud2 = Unit {0}

-- The first k bytes are the spelling of op.
pub record IsSpelt (op : Op) (bytes : List ℕ) (k : ℕ) : Type 0 where
  pub profile : IsInProfile op
  pub within : k ≤ length bytes
  pub front : take k bytes ≡ spelling op

-- A function that reads bytes: it gives an op and a length exactly where so many bytes are the spelling of that op.
pub record IsReading (reading : List ℕ → Option (Op × ℕ)) : Type 0 where
  pub exact : (bytes : List ℕ) (op : Op) (k : ℕ) → (reading bytes ≡ Some (op, k)) ↔ IsSpelt op bytes k
