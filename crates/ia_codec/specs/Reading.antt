-- What bytes are read as from the left, before they are compared with a spelling.
use Rattle.std.specs.Prelude.{ℕ, ◌≡◌, ◌/◌, ◌%◌, ◌==◌, ◌&&◌, ◌||◌, nat_lt, if◌then◌else◌, List, [], ◌∷◌, take, drop, length, Option, Some, None}
use Rattle.std.specs.Int.{w32, from_le_bytes}
use Rattle.ia_codec.specs.Types.{Operand, Reg, Abs, Base, Pair, AluOp, Add, Or, Adc, Sbb, And, Sub, Xor, Cmp, ShiftOp, Rol, Ror, Shl, Shr, Sar, UnaryOp, Not, Neg, Mul, Imul1, Div, Idiv, ExtendOp, MovzxByte, MovzxHalf, MovsxByte, MovsxHalf, Condition, Below, NotBelow, Equal, NotEqual, NotAbove, Above, Sign, NotSign, Less, NotLess, NotGreater, Greater, Op, AluTo, AluFrom, AluImm, TestReg, TestImm, Unary, Imul, MovTo, MovFrom, MovImm, MovToImm, MovHalfTo, MovByteTo, MovByteFrom, Shift, ShiftByCl, Lea, Extend, Bswap, Set, Cmov, Bsr, Cdq, Jcc, Jmp, JmpTo, Int80, Int3, Ud2}

infixl 10 ◌>>=◌
abbrev pub ◌>>=◌ : {A B : Type 0} → Option A → (A → Option B) → Option B
(Some x) >>= f = f x
None >>= f = None

-- What a function returned, seen by view, is what reading gives.
abbrev pub Gives : {X Y : Type 0} → (X → Y) → Option X → Option Y → Type 0
Gives view (Some x) read = read ≡ Some (view x)
Gives view None read = read ≡ None

unfoldable pub byte_at : List ℕ → Option (ℕ × List ℕ)
byte_at [] = None
byte_at (b ∷ rest) = Some (b, rest)

unfoldable pub dword_at : List ℕ → Option (ℕ × List ℕ)
dword_at bytes = if nat_lt (length bytes) 4 then None else Some (from_le_bytes w32 (take 4 bytes), drop 4 bytes)

-- the number in the middle, the operand, and the bytes after it
unfoldable pub modrm_at : List ℕ → Option (ℕ × Operand × List ℕ)
modrm_at bytes = do
  m ← byte_at bytes
  if m.0 / 64 == 3 then Some (m.0 / 8 % 8, Reg (m.0 % 8), m.1)
      else if m.0 / 64 == 0 && m.0 % 8 == 5 then (do
        d ← dword_at m.1
        Some (m.0 / 8 % 8, Abs d.0, d.1))
      else if m.0 / 64 == 2 && m.0 % 8 == 4 then (do
        s ← byte_at m.1
        d ← dword_at s.1
        Some (m.0 / 8 % 8, Pair (s.0 % 8) (s.0 / 8 % 8) (s.0 / 64) d.0, d.1))
      else if m.0 / 64 == 2 then (do
        d ← dword_at m.1
        Some (m.0 / 8 % 8, Base (m.0 % 8) d.0, d.1))
      else None

unfoldable pub alu_to_at : AluOp → List ℕ → Option (Op × List ℕ)
alu_to_at op bytes = do
  x ← modrm_at bytes
  Some (AluTo op x.1 x.0, x.2)

unfoldable pub alu_from_at : AluOp → List ℕ → Option (Op × List ℕ)
alu_from_at op bytes = do
  x ← modrm_at bytes
  Some (AluFrom op x.0 x.1, x.2)

unfoldable pub alu_of_number : ℕ → AluOp
alu_of_number n = if n == 0 then Add else if n == 1 then Or else if n == 2 then Adc else if n == 3 then Sbb else if n == 4 then And else if n == 5 then Sub else if n == 6 then Xor else Cmp

unfoldable pub alu_imm_at : List ℕ → Option (Op × List ℕ)
alu_imm_at bytes = do
  x ← modrm_at bytes
  imm ← dword_at x.2
  Some (AluImm (alu_of_number x.0) x.1 imm.0, imm.1)

unfoldable pub shift_of_number : ℕ → Option ShiftOp
shift_of_number n = if n == 0 then Some Rol else if n == 1 then Some Ror else if n == 4 then Some Shl else if n == 5 then Some Shr else if n == 7 then Some Sar else None

unfoldable pub shift_at : List ℕ → Option (Op × List ℕ)
shift_at bytes = do
  x ← modrm_at bytes
  op ← shift_of_number x.0
  by ← byte_at x.2
  Some (Shift op x.1 by.0, by.1)

unfoldable pub shift_by_cl_at : List ℕ → Option (Op × List ℕ)
shift_by_cl_at bytes = do
  x ← modrm_at bytes
  op ← shift_of_number x.0
  Some (ShiftByCl op x.1, x.2)

unfoldable pub unary_of_number : ℕ → Option UnaryOp
unary_of_number n = if n == 2 then Some Not else if n == 3 then Some Neg else if n == 4 then Some Mul else if n == 5 then Some Imul1 else if n == 6 then Some Div else if n == 7 then Some Idiv else None

unfoldable pub after_f7_at : List ℕ → Option (Op × List ℕ)
after_f7_at bytes = do
  x ← modrm_at bytes
  if x.0 == 0 then (do
    imm ← dword_at x.2
    Some (TestImm x.1 imm.0, imm.1))
      else (do
        op ← unary_of_number x.0
        Some (Unary op x.1, x.2))

unfoldable pub after_66_at : List ℕ → Option (Op × List ℕ)
after_66_at bytes = do
  b ← byte_at bytes
  if b.0 == 0x89 then (do
    x ← modrm_at b.1
    Some (MovHalfTo x.1 x.0, x.2))
      else None

unfoldable pub extend_at : ExtendOp → List ℕ → Option (Op × List ℕ)
extend_at op bytes = do
  x ← modrm_at bytes
  Some (Extend op x.0 x.1, x.2)

unfoldable pub condition_of_number : ℕ → Option Condition
condition_of_number n = if n == 2 then Some Below else if n == 3 then Some NotBelow else if n == 4 then Some Equal else if n == 5 then Some NotEqual else if n == 6 then Some NotAbove else if n == 7 then Some Above else if n == 8 then Some Sign else if n == 9 then Some NotSign else if n == 12 then Some Less else if n == 13 then Some NotLess else if n == 14 then Some NotGreater else if n == 15 then Some Greater else None

-- after 0F, an opcode with a condition in its low four bits
unfoldable pub conditional_at : ℕ → List ℕ → Option (Op × List ℕ)
conditional_at opcode bytes = do
  condition ← condition_of_number (opcode % 16)
  if opcode / 16 == 8 then (do
    rel ← dword_at bytes
    Some (Jcc condition rel.0, rel.1))
      else (do
        x ← modrm_at bytes
        if opcode / 16 == 4 then Some (Cmov condition x.0 x.1, x.2)
            else Some (Set condition x.1, x.2))

unfoldable pub after_0f_at : List ℕ → Option (Op × List ℕ)
after_0f_at bytes = do
  b ← byte_at bytes
  if b.0 / 16 == 4 || (b.0 / 16 == 8 || b.0 / 16 == 9) then conditional_at b.0 b.1
      else if b.0 / 8 == 25 then Some (Bswap (b.0 % 8), b.1)
      else if b.0 == 0x0b then Some (Ud2, b.1)
      else if b.0 == 0xaf then (do
        x ← modrm_at b.1
        Some (Imul x.0 x.1, x.2))
      else if b.0 == 0xb6 then extend_at MovzxByte b.1
      else if b.0 == 0xb7 then extend_at MovzxHalf b.1
      else if b.0 == 0xbd then (do
        x ← modrm_at b.1
        Some (Bsr x.0 x.1, x.2))
      else if b.0 == 0xbe then extend_at MovsxByte b.1
      else if b.0 == 0xbf then extend_at MovsxHalf b.1
      else None

-- an opcode of one byte with ModRM and nothing after its operand
unfoldable pub plain_op : ℕ → ℕ → Operand → Option Op
plain_op opcode reg operand = if opcode == 0x85 then Some (TestReg operand reg) else if opcode == 0x88 then Some (MovByteTo operand reg) else if opcode == 0x89 then Some (MovTo operand reg) else if opcode == 0x8a then Some (MovByteFrom reg operand) else if opcode == 0x8b then Some (MovFrom reg operand) else if opcode == 0x8d then Some (Lea reg operand) else if opcode == 0xff then Some (JmpTo operand) else None

unfoldable pub plain_at : ℕ → List ℕ → Option (Op × List ℕ)
plain_at opcode bytes = do
  x ← modrm_at bytes
  op ← plain_op opcode x.0 x.1
  Some (op, x.2)

unfoldable pub mov_to_imm_at : List ℕ → Option (Op × List ℕ)
mov_to_imm_at bytes = do
  x ← modrm_at bytes
  imm ← dword_at x.2
  Some (MovToImm x.1 imm.0, imm.1)

unfoldable pub read : List ℕ → Option (Op × List ℕ)
read bytes = do
  b ← byte_at bytes
  if b.0 / 64 == 0 && b.0 % 8 == 1 then alu_to_at (alu_of_number (b.0 / 8)) b.1
      else if b.0 / 64 == 0 && b.0 % 8 == 3 then alu_from_at (alu_of_number (b.0 / 8)) b.1
      else if b.0 / 8 == 23 then (do
        imm ← dword_at b.1
        Some (MovImm (b.0 % 8) imm.0, imm.1))
      else if b.0 == 0x0f then after_0f_at b.1
      else if b.0 == 0x66 then after_66_at b.1
      else if b.0 == 0x81 then alu_imm_at b.1
      else if b.0 == 0x99 then Some (Cdq, b.1)
      else if b.0 == 0xc1 then shift_at b.1
      else if b.0 == 0xc7 then mov_to_imm_at b.1
      else if b.0 == 0xcc then Some (Int3, b.1)
      else if b.0 == 0xcd then (do
        x ← byte_at b.1
        Some (Int80, x.1))
      else if b.0 == 0xd3 then shift_by_cl_at b.1
      else if b.0 == 0xe9 then (do
        rel ← dword_at b.1
        Some (Jmp rel.0, rel.1))
      else if b.0 == 0xf7 then after_f7_at b.1
      else plain_at b.0 b.1
