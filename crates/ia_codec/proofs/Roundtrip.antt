-- What was spelled is read again, op by op.
use Rattle.std.proofs.Common.{◌≡◌, ℕ, ◌+◌, ◌*◌, ◌/◌, ◌%◌, ◌<◌, false, eqb, List, [], ◌∷◌, ◌++◌, Some, refl, ap, ◌∙◌, append_assoc, arith}
use Rattle.ia_codec.specs.Prelude.{Operand, AluOp, Add, Or, Adc, Sbb, And, Sub, Xor, Cmp, ShiftOp, Rol, Ror, Shl, Shr, Sar, UnaryOp, Not, Neg, Mul, Imul1, Div, Idiv, ExtendOp, MovzxByte, MovzxHalf, MovsxByte, MovsxHalf, Condition, Below, NotBelow, Equal, NotEqual, NotAbove, Above, Sign, NotSign, Less, NotLess, NotGreater, Greater, Op, AluTo, AluFrom, AluImm, TestReg, TestImm, Unary, Imul, MovTo, MovFrom, MovImm, MovToImm, MovHalfTo, MovByteTo, MovByteFrom, Shift, ShiftByCl, Lea, Extend, Bswap, Set, Cmov, Bsr, Cdq, Jcc, Jmp, JmpTo, Int80, Int3, Ud2, dword, modrm, alu_number, shift_number, unary_number, extend_number, condition_number, spelling, IsOperand, IsMemory, IsSum, IsByte, IsInProfile, byte_at, alu_to_at, alu_from_at, alu_of_number, shift_of_number, alu_imm_at, shift_at, shift_by_cl_at, unary_of_number, after_f7_at, extend_at, condition_of_number, after_66_at, conditional_at, after_0f_at, plain_op, plain_at, mov_to_imm_at, read, Reg, Abs, Base, Pair}
use Rattle.ia_codec.proofs.Parts.{dword_at-dword, modrm_at-modrm}

pub memory_is : (m : Operand) → IsMemory m → IsOperand m
memory_is (Reg m) h = absurd h
memory_is (Abs d) h = h
memory_is (Base b d) h = h
memory_is (Pair b x s d) h = h

pub sum_is : (m : Operand) → IsSum m → IsOperand m
sum_is (Reg m) h = absurd h
sum_is (Abs d) h = absurd h
sum_is (Base b d) h = h
sum_is (Pair b x s d) h = h

pub byte_is : (m : Operand) → IsByte m → IsOperand m
byte_is (Reg m) h = (omega arith, λ e. omega arith, λ e. omega arith)
byte_is (Abs d) h = h
byte_is (Base b d) h = h
byte_is (Pair b x s d) h = h

alu_of-number : (op : AluOp) → alu_of_number (alu_number op) ≡ op
unfolding alu_of_number
alu_of-number Add = refl
alu_of-number Or = refl
alu_of-number Adc = refl
alu_of-number Sbb = refl
alu_of-number And = refl
alu_of-number Sub = refl
alu_of-number Xor = refl
alu_of-number Cmp = refl

pub alu_below : (op : AluOp) → alu_number op < 8
alu_below Add = omega arith
alu_below Or = omega arith
alu_below Adc = omega arith
alu_below Sbb = omega arith
alu_below And = omega arith
alu_below Sub = omega arith
alu_below Xor = omega arith
alu_below Cmp = omega arith

shift_of-number : (op : ShiftOp) → shift_of_number (shift_number op) ≡ Some op
unfolding shift_of_number
shift_of-number Rol = refl
shift_of-number Ror = refl
shift_of-number Shl = refl
shift_of-number Shr = refl
shift_of-number Sar = refl

shift_below : (op : ShiftOp) → shift_number op < 8
shift_below Rol = omega arith
shift_below Ror = omega arith
shift_below Shl = omega arith
shift_below Shr = omega arith
shift_below Sar = omega arith

-- one row each: the opcode leads to the row's reader
read-alu_opcode : (op : AluOp) (rest : List ℕ) → read ((alu_number op * 8 + 1) ∷ rest) ≡ alu_to_at op rest
unfolding read byte_at alu_of_number
read-alu_opcode Add rest = refl
read-alu_opcode Or rest = refl
read-alu_opcode Adc rest = refl
read-alu_opcode Sbb rest = refl
read-alu_opcode And rest = refl
read-alu_opcode Sub rest = refl
read-alu_opcode Xor rest = refl
read-alu_opcode Cmp rest = refl

read-alu_from_opcode : (op : AluOp) (rest : List ℕ) → read ((alu_number op * 8 + 3) ∷ rest) ≡ alu_from_at op rest
unfolding read byte_at alu_of_number
read-alu_from_opcode Add rest = refl
read-alu_from_opcode Or rest = refl
read-alu_from_opcode Adc rest = refl
read-alu_from_opcode Sbb rest = refl
read-alu_from_opcode And rest = refl
read-alu_from_opcode Sub rest = refl
read-alu_from_opcode Xor rest = refl
read-alu_from_opcode Cmp rest = refl

read-AluTo : (op : AluOp) (to : Operand) (from : ℕ) (rest : List ℕ) → IsInProfile (AluTo op to from) → read (spelling (AluTo op to from) ++ rest) ≡ Some (AluTo op to from, rest)
unfolding alu_to_at
read-AluTo op to from rest h = read-alu_opcode op (modrm from to ++ rest) ∙ rw (modrm_at-modrm from to rest h.1.0 h.0) refl

read-AluFrom : (op : AluOp) (to : ℕ) (from : Operand) (rest : List ℕ) → IsInProfile (AluFrom op to from) → read (spelling (AluFrom op to from) ++ rest) ≡ Some (AluFrom op to from, rest)
unfolding alu_from_at
read-AluFrom op to from rest h = read-alu_from_opcode op (modrm to from ++ rest) ∙ rw (modrm_at-modrm to from rest h.0.0 (memory_is from h.1)) refl

read-AluImm : (op : AluOp) (to : Operand) (imm : ℕ) (rest : List ℕ) → IsInProfile (AluImm op to imm) → read (spelling (AluImm op to imm) ++ rest) ≡ Some (AluImm op to imm, rest)
unfolding read byte_at alu_imm_at
read-AluImm op to imm rest h =
    let e : spelling (AluImm op to imm) ++ rest ≡ 0x81 ∷ (modrm (alu_number op) to ++ (dword imm ++ rest)) = ap (λ (x : List ℕ). 0x81 ∷ x) (append_assoc (modrm (alu_number op) to) (dword imm) rest) in
    ap read e ∙ rw (modrm_at-modrm (alu_number op) to (dword imm ++ rest) (alu_below op) h.0, dword_at-dword imm rest h.1, alu_of-number op) refl

read-MovTo : (to : Operand) (from : ℕ) (rest : List ℕ) → IsInProfile (MovTo to from) → read (spelling (MovTo to from) ++ rest) ≡ Some (MovTo to from, rest)
unfolding read byte_at plain_at plain_op
read-MovTo to from rest h = rw (modrm_at-modrm from to rest h.1.0 h.0) refl

read-MovFrom : (to : ℕ) (from : Operand) (rest : List ℕ) → IsInProfile (MovFrom to from) → read (spelling (MovFrom to from) ++ rest) ≡ Some (MovFrom to from, rest)
unfolding read byte_at plain_at plain_op
read-MovFrom to from rest h = rw (modrm_at-modrm to from rest h.0.0 (memory_is from h.1)) refl

read-Lea : (to : ℕ) (from : Operand) (rest : List ℕ) → IsInProfile (Lea to from) → read (spelling (Lea to from) ++ rest) ≡ Some (Lea to from, rest)
unfolding read byte_at plain_at plain_op
read-Lea to from rest h = rw (modrm_at-modrm to from rest h.0.0 (sum_is from h.1)) refl

read-TestReg : (a : Operand) (b : ℕ) (rest : List ℕ) → IsInProfile (TestReg a b) → read (spelling (TestReg a b) ++ rest) ≡ Some (TestReg a b, rest)
unfolding read byte_at plain_at plain_op
read-TestReg a b rest h = rw (modrm_at-modrm b a rest h.1.0 (h.0)) refl

read-Imul : (to : ℕ) (from : Operand) (rest : List ℕ) → IsInProfile (Imul to from) → read (spelling (Imul to from) ++ rest) ≡ Some (Imul to from, rest)
unfolding read after_0f_at byte_at
read-Imul to from rest h = rw (modrm_at-modrm to from rest h.0.0 (h.1)) refl

read-Bsr : (to : ℕ) (from : Operand) (rest : List ℕ) → IsInProfile (Bsr to from) → read (spelling (Bsr to from) ++ rest) ≡ Some (Bsr to from, rest)
unfolding read after_0f_at byte_at
read-Bsr to from rest h = rw (modrm_at-modrm to from rest h.0.0 (h.1)) refl

read-MovHalfTo : (to : Operand) (from : ℕ) (rest : List ℕ) → IsInProfile (MovHalfTo to from) → read (spelling (MovHalfTo to from) ++ rest) ≡ Some (MovHalfTo to from, rest)
unfolding read after_66_at byte_at
read-MovHalfTo to from rest h = rw (modrm_at-modrm from to rest h.1.0 (memory_is to h.0)) refl

read-MovByteTo : (to : Operand) (from : ℕ) (rest : List ℕ) → IsInProfile (MovByteTo to from) → read (spelling (MovByteTo to from) ++ rest) ≡ Some (MovByteTo to from, rest)
unfolding read byte_at plain_at plain_op
read-MovByteTo to from rest h = rw (modrm_at-modrm from to rest (omega arith) (memory_is to h.0)) refl

read-MovByteFrom : (to : ℕ) (from : Operand) (rest : List ℕ) → IsInProfile (MovByteFrom to from) → read (spelling (MovByteFrom to from) ++ rest) ≡ Some (MovByteFrom to from, rest)
unfolding read byte_at plain_at plain_op
read-MovByteFrom to from rest h = rw (modrm_at-modrm to from rest (omega arith) (memory_is from h.1)) refl

unary_of-number : (op : UnaryOp) → unary_of_number (unary_number op) ≡ Some op
unfolding unary_of_number
unary_of-number Not = refl
unary_of-number Neg = refl
unary_of-number Mul = refl
unary_of-number Imul1 = refl
unary_of-number Div = refl
unary_of-number Idiv = refl

pub unary_below : (op : UnaryOp) → unary_number op < 8
unary_below Not = omega arith
unary_below Neg = omega arith
unary_below Mul = omega arith
unary_below Imul1 = omega arith
unary_below Div = omega arith
unary_below Idiv = omega arith

not_test : (op : UnaryOp) → eqb (unary_number op) 0 ≡ false
not_test Not = refl
not_test Neg = refl
not_test Mul = refl
not_test Imul1 = refl
not_test Div = refl
not_test Idiv = refl

read-TestImm : (a : Operand) (imm : ℕ) (rest : List ℕ) → IsInProfile (TestImm a imm) → read (spelling (TestImm a imm) ++ rest) ≡ Some (TestImm a imm, rest)
unfolding read byte_at after_f7_at
read-TestImm a imm rest h =
    let e : spelling (TestImm a imm) ++ rest ≡ 0xf7 ∷ (modrm 0 a ++ (dword imm ++ rest)) = ap (λ (x : List ℕ). 0xf7 ∷ x) (append_assoc (modrm 0 a) (dword imm) rest) in
    ap read e ∙ rw (modrm_at-modrm 0 a (dword imm ++ rest) (omega arith) h.0, dword_at-dword imm rest h.1) refl

read-Unary : (op : UnaryOp) (on : Operand) (rest : List ℕ) → IsInProfile (Unary op on) → read (spelling (Unary op on) ++ rest) ≡ Some (Unary op on, rest)
unfolding read byte_at after_f7_at
read-Unary op on rest h = rw (modrm_at-modrm (unary_number op) on rest (unary_below op) h, not_test op, unary_of-number op) refl

read-ShiftByCl : (op : ShiftOp) (to : Operand) (rest : List ℕ) → IsInProfile (ShiftByCl op to) → read (spelling (ShiftByCl op to) ++ rest) ≡ Some (ShiftByCl op to, rest)
unfolding read byte_at shift_by_cl_at
read-ShiftByCl op to rest h = rw (modrm_at-modrm (shift_number op) to rest (shift_below op) h, shift_of-number op) refl

read-JmpTo : (to : Operand) (rest : List ℕ) → IsInProfile (JmpTo to) → read (spelling (JmpTo to) ++ rest) ≡ Some (JmpTo to, rest)
unfolding read byte_at plain_at plain_op
read-JmpTo to rest h = rw (modrm_at-modrm 4 to rest (omega arith) h) refl

read-extend_opcode : (op : ExtendOp) (rest : List ℕ) → read (0x0f ∷ extend_number op ∷ rest) ≡ extend_at op rest
unfolding read after_0f_at byte_at
read-extend_opcode MovzxByte rest = refl
read-extend_opcode MovzxHalf rest = refl
read-extend_opcode MovsxByte rest = refl
read-extend_opcode MovsxHalf rest = refl

extend_is : (op : ExtendOp) (to : ℕ) (from : Operand) → IsInProfile (Extend op to from) → (to < 8) × IsOperand from
extend_is MovzxByte to from h = (h.0.0, byte_is from h.1)
extend_is MovsxByte to from h = (h.0.0, byte_is from h.1)
extend_is MovzxHalf to from h = (h.0.0, h.1)
extend_is MovsxHalf to from h = (h.0.0, h.1)

read-Extend : (op : ExtendOp) (to : ℕ) (from : Operand) (rest : List ℕ) → IsInProfile (Extend op to from) → read (spelling (Extend op to from) ++ rest) ≡ Some (Extend op to from, rest)
unfolding extend_at
read-Extend op to from rest h =
    let fit = extend_is op to from h in
    read-extend_opcode op (modrm to from ++ rest) ∙ rw (modrm_at-modrm to from rest fit.0 fit.1) refl

condition_of-number : (c : Condition) → condition_of_number (condition_number c) ≡ Some c
unfolding condition_of_number
condition_of-number Below = refl
condition_of-number NotBelow = refl
condition_of-number Equal = refl
condition_of-number NotEqual = refl
condition_of-number NotAbove = refl
condition_of-number Above = refl
condition_of-number Sign = refl
condition_of-number NotSign = refl
condition_of-number Less = refl
condition_of-number NotLess = refl
condition_of-number NotGreater = refl
condition_of-number Greater = refl

pub condition_below : (c : Condition) → condition_number c < 16
condition_below Below = omega arith
condition_below NotBelow = omega arith
condition_below Equal = omega arith
condition_below NotEqual = omega arith
condition_below NotAbove = omega arith
condition_below Above = omega arith
condition_below Sign = omega arith
condition_below NotSign = omega arith
condition_below Less = omega arith
condition_below NotLess = omega arith
condition_below NotGreater = omega arith
condition_below Greater = omega arith

read-Set : (c : Condition) (to : Operand) (rest : List ℕ) → IsInProfile (Set c to) → read (spelling (Set c to) ++ rest) ≡ Some (Set c to, rest)
unfolding read after_0f_at byte_at conditional_at
read-Set c to rest h =
    let p0 : (144 + condition_number c) / 16 ≡ 9 = omega (arith, condition_below c) in
    let p1 : (144 + condition_number c) % 16 ≡ condition_number c = omega (arith, condition_below c) in
    rw (p0, p1, condition_of-number c, modrm_at-modrm 0 to rest (omega arith) (byte_is to h)) refl

read-Cmov : (c : Condition) (to : ℕ) (from : Operand) (rest : List ℕ) → IsInProfile (Cmov c to from) → read (spelling (Cmov c to from) ++ rest) ≡ Some (Cmov c to from, rest)
unfolding read after_0f_at byte_at conditional_at
read-Cmov c to from rest h =
    let p0 : (64 + condition_number c) / 16 ≡ 4 = omega (arith, condition_below c) in
    let p1 : (64 + condition_number c) % 16 ≡ condition_number c = omega (arith, condition_below c) in
    rw (p0, p1, condition_of-number c, modrm_at-modrm to from rest h.0.0 h.1) refl

read-Cdq : (rest : List ℕ) → read (spelling Cdq ++ rest) ≡ Some (Cdq, rest)
unfolding read byte_at
read-Cdq rest = refl

read-Int3 : (rest : List ℕ) → read (spelling Int3 ++ rest) ≡ Some (Int3, rest)
unfolding read byte_at
read-Int3 rest = refl

read-Ud2 : (rest : List ℕ) → read (spelling Ud2 ++ rest) ≡ Some (Ud2, rest)
unfolding read after_0f_at byte_at
read-Ud2 rest = refl

read-MovImm : (to imm : ℕ) (rest : List ℕ) → IsInProfile (MovImm to imm) → read (spelling (MovImm to imm) ++ rest) ≡ Some (MovImm to imm, rest)
unfolding read byte_at
read-MovImm to imm rest h =
    let p0 : (184 + to) / 64 ≡ 2 = omega arith in
    let p1 : (184 + to) / 8 ≡ 23 = omega arith in
    let p2 : (184 + to) % 8 ≡ to = omega arith in
    rw (p0, p1, dword_at-dword imm rest h.1, p2) refl

read-MovToImm : (to : Operand) (imm : ℕ) (rest : List ℕ) → IsInProfile (MovToImm to imm) → read (spelling (MovToImm to imm) ++ rest) ≡ Some (MovToImm to imm, rest)
unfolding read byte_at mov_to_imm_at
read-MovToImm to imm rest h =
    let e : spelling (MovToImm to imm) ++ rest ≡ 0xc7 ∷ (modrm 0 to ++ (dword imm ++ rest)) = ap (λ (x : List ℕ). 0xc7 ∷ x) (append_assoc (modrm 0 to) (dword imm) rest) in
    ap read e ∙ rw (modrm_at-modrm 0 to (dword imm ++ rest) (omega arith) (memory_is to h.0), dword_at-dword imm rest h.1) refl

read-Shift : (op : ShiftOp) (to : Operand) (by : ℕ) (rest : List ℕ) → IsInProfile (Shift op to by) → read (spelling (Shift op to by) ++ rest) ≡ Some (Shift op to by, rest)
unfolding read byte_at shift_at
read-Shift op to by rest h =
    let e : spelling (Shift op to by) ++ rest ≡ 0xc1 ∷ (modrm (shift_number op) to ++ (by ∷ rest)) = ap (λ (x : List ℕ). 0xc1 ∷ x) (append_assoc (modrm (shift_number op) to) (by ∷ []) rest) in
    ap read e ∙ rw (modrm_at-modrm (shift_number op) to (by ∷ rest) (shift_below op) h.0, shift_of-number op) refl

read-Bswap : (reg : ℕ) (rest : List ℕ) → IsInProfile (Bswap reg) → read (spelling (Bswap reg) ++ rest) ≡ Some (Bswap reg, rest)
unfolding read after_0f_at byte_at
read-Bswap reg rest h =
    let p0 : (200 + reg) / 16 ≡ 12 = omega arith in
    let p1 : (200 + reg) / 8 ≡ 25 = omega arith in
    let p2 : (200 + reg) % 8 ≡ reg = omega arith in
    rw (p0, p1, p2) refl

read-Jcc : (c : Condition) (rel : ℕ) (rest : List ℕ) → IsInProfile (Jcc c rel) → read (spelling (Jcc c rel) ++ rest) ≡ Some (Jcc c rel, rest)
unfolding read after_0f_at byte_at conditional_at
read-Jcc c rel rest h =
    let p0 : (128 + condition_number c) / 16 ≡ 8 = omega (arith, condition_below c) in
    let p1 : (128 + condition_number c) % 16 ≡ condition_number c = omega (arith, condition_below c) in
    rw (p0, p1, condition_of-number c, dword_at-dword rel rest h) refl

read-Jmp : (rel : ℕ) (rest : List ℕ) → IsInProfile (Jmp rel) → read (spelling (Jmp rel) ++ rest) ≡ Some (Jmp rel, rest)
unfolding read byte_at
read-Jmp rel rest h = rw (dword_at-dword rel rest h) refl

read-Int80 : (rest : List ℕ) → read (spelling Int80 ++ rest) ≡ Some (Int80, rest)
unfolding read byte_at
read-Int80 rest = refl

-- Reading the spelling of an op of the profile, with any bytes after it, gives the op and those bytes.
pub read-spelling : (op : Op) (rest : List ℕ) → IsInProfile op → read (spelling op ++ rest) ≡ Some (op, rest)
read-spelling (AluTo op to from) rest h = read-AluTo op to from rest h
read-spelling (AluFrom op to from) rest h = read-AluFrom op to from rest h
read-spelling (AluImm op to imm) rest h = read-AluImm op to imm rest h
read-spelling (MovTo to from) rest h = read-MovTo to from rest h
read-spelling (MovFrom to from) rest h = read-MovFrom to from rest h
read-spelling (MovImm to imm) rest h = read-MovImm to imm rest h
read-spelling (MovToImm to imm) rest h = read-MovToImm to imm rest h
read-spelling (Shift op to by) rest h = read-Shift op to by rest h
read-spelling (Lea to from) rest h = read-Lea to from rest h
read-spelling (TestReg a b) rest h = read-TestReg a b rest h
read-spelling (TestImm a imm) rest h = read-TestImm a imm rest h
read-spelling (Unary op on) rest h = read-Unary op on rest h
read-spelling (Imul to from) rest h = read-Imul to from rest h
read-spelling (MovHalfTo to from) rest h = read-MovHalfTo to from rest h
read-spelling (MovByteTo to from) rest h = read-MovByteTo to from rest h
read-spelling (MovByteFrom to from) rest h = read-MovByteFrom to from rest h
read-spelling (ShiftByCl op to) rest h = read-ShiftByCl op to rest h
read-spelling (Extend op to from) rest h = read-Extend op to from rest h
read-spelling (Set c to) rest h = read-Set c to rest h
read-spelling (Cmov c to from) rest h = read-Cmov c to from rest h
read-spelling (Bsr to from) rest h = read-Bsr to from rest h
read-spelling Cdq rest h = read-Cdq rest
read-spelling (JmpTo to) rest h = read-JmpTo to rest h
read-spelling Int3 rest h = read-Int3 rest
read-spelling Ud2 rest h = read-Ud2 rest
read-spelling (Bswap reg) rest h = read-Bswap reg rest h
read-spelling (Jcc c rel) rest h = read-Jcc c rel rest h
read-spelling (Jmp rel) rest h = read-Jmp rel rest h
read-spelling Int80 rest h = read-Int80 rest
