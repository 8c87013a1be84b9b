-- What is written in hexadecimal is told by its digits: a spelling is one of bytes.
use Rattle.std.proofs.Common.{◌≡◌, ℕ, zero, suc, ◌<◌, ◌^◌, ◌++◌, List, [], ◌∷◌, get_or, refl, sym, ap, ◌∙◌, arith, Ok}
use Rattle.std.specs.List.{AllByRecursion}
use Rattle.std.specs.Int.{w32, to_be_bytes, from_be_bytes}
use Rattle.std.proofs.lemmas.Nat.{from_be_bytes-to_be_bytes_4}
use Rattle.hex.specs.Hex.{encode_lower, decode_of}
use Rattle.hex.proofs.HexLemmas.{decode_of-encode_lower}
use Rattle.ia_codec.specs.Prelude.{spelling, IsInProfile, IsOperand, IsReg, modrm, dword, alu_number, shift_number, unary_number}
use Rattle.ia_codec.specs.declared.op.Operand.{Operand}
use Rattle.ia_codec.specs.declared.op.Operand.TheVariants.{Reg, Abs, Base, Pair}
use Rattle.ia_codec.specs.declared.op.AluOp.TheVariants as alu
use Rattle.ia_codec.specs.declared.op.ShiftOp.{ShiftOp}
use Rattle.ia_codec.specs.declared.op.ShiftOp.TheVariants as shift
use Rattle.ia_codec.specs.declared.op.UnaryOp.TheVariants as unary
use Rattle.ia_codec.specs.declared.op.ExtendOp.TheVariants.{MovzxByte, MovzxHalf, MovsxByte, MovsxHalf}
use Rattle.ia_codec.specs.declared.op.Condition.TheVariants as condition
use Rattle.ia_codec.specs.declared.op.Op.{Op}
use Rattle.ia_codec.specs.declared.op.Op.TheVariants.{AluTo, AluFrom, AluImm, TestReg, TestImm, Unary, Imul, MovTo, MovFrom, MovImm, MovToImm, MovHalfTo, MovByteTo, MovByteFrom, Shift, ShiftByCl, Lea, Extend, Bswap, Set, Cmov, Bsr, Cdq, Jcc, Jmp, JmpTo, Int80, Int3, Ud2}
use Rattle.ia_codec.proofs.Spelt.{prefix_free}
use Rattle.ia_codec.proofs.Roundtrip.{alu_below as alu-low, unary_below as unary-low, condition_below as condition-low, memory_is as of-memory, sum_is as of-sum, byte_is as of-byte}

abbrev AreBytes : List ℕ → Type 0
AreBytes bs = AllByRecursion (λ b. b < 256) bs

bytes-at : (bs : List ℕ) → AreBytes bs → (i : ℕ) → get_or bs i 0 < 256
bytes-at [] h i = omega arith
bytes-at (b ∷ bs) h zero = h.0
bytes-at (b ∷ bs) h (suc i) = bytes-at bs h.1 i

join : (xs ys : List ℕ) → AreBytes xs → AreBytes ys → AreBytes (xs ++ ys)
join [] ys a b = b
join (x ∷ xs) ys a b = (a.0, join xs ys a.1 b)

-- one list of bytes has the digits
pub hexadecimal-same : (xs ys : List ℕ) → AreBytes xs → AreBytes ys → encode_lower xs ≡ encode_lower ys → xs ≡ ys
hexadecimal-same xs ys g h e =
    let f : Ok xs ≡ Ok ys = sym (decode_of-encode_lower xs (bytes-at xs g)) ∙ ap decode_of e ∙ decode_of-encode_lower ys (bytes-at ys h) in
    cc

bytes-word : (w : ℕ) → AreBytes (to_be_bytes w32 w)
bytes-word w = (omega arith, (omega arith, (omega arith, (omega arith, tt))))

pub word-same : (v w : ℕ) → v < 2 ^ 32 → w < 2 ^ 32 → encode_lower (to_be_bytes w32 v) ≡ encode_lower (to_be_bytes w32 w) → v ≡ w
word-same v w g h e =
    sym (from_be_bytes-to_be_bytes_4 v g) ∙ ap (from_be_bytes w32) (hexadecimal-same (to_be_bytes w32 v) (to_be_bytes w32 w) (bytes-word v) (bytes-word w) e) ∙ from_be_bytes-to_be_bytes_4 w h

bytes-dword : (d : ℕ) → AreBytes (dword d)
bytes-dword d = (omega arith, (omega arith, (omega arith, (omega arith, tt))))

bytes-modrm : (n : ℕ) (o : Operand) → n < 8 → IsOperand o → AreBytes (modrm n o)
bytes-modrm n (Reg m) h i = (let k = i.0 in omega (arith, h, k), tt)
bytes-modrm n (Abs d) h i = (omega (arith, h), bytes-dword d)
bytes-modrm n (Base b d) h i = (let k = i.0.0 in omega (arith, h, k), bytes-dword d)
bytes-modrm n (Pair b x s d) h i = (omega (arith, h), (let k = i.0.0 in let l = i.1.0 in let m = i.2 in omega (arith, k, l, m), bytes-dword d))

shift-low : (op : ShiftOp) → shift_number op < 8
shift-low shift.Rol = omega arith
shift-low shift.Ror = omega arith
shift-low shift.Shl = omega arith
shift-low shift.Shr = omega arith
shift-low shift.Sar = omega arith

reg-low : (r : ℕ) → IsReg r → r < 8
reg-low r h = h.0

bytes-spelling : (op : Op) → IsInProfile op → AreBytes (spelling op)
bytes-spelling (AluTo op to from) h = (let k = alu-low op in omega (arith, k), bytes-modrm from to (reg-low from h.1) h.0)
bytes-spelling (AluFrom op to from) h = (let k = alu-low op in omega (arith, k), bytes-modrm to from (reg-low to h.0) (of-memory from h.1))
bytes-spelling (AluImm op to imm) h = (omega arith, join (modrm (alu_number op) to) (dword imm) (bytes-modrm (alu_number op) to (alu-low op) h.0) (bytes-dword imm))
bytes-spelling (TestReg a b) h = (omega arith, bytes-modrm b a (reg-low b h.1) h.0)
bytes-spelling (TestImm a imm) h = (omega arith, join (modrm 0 a) (dword imm) (bytes-modrm 0 a (omega arith) h.0) (bytes-dword imm))
bytes-spelling (Unary op on) h = (omega arith, bytes-modrm (unary_number op) on (unary-low op) h)
bytes-spelling (Imul to from) h = (omega arith, (omega arith, bytes-modrm to from (reg-low to h.0) h.1))
bytes-spelling (MovTo to from) h = (omega arith, bytes-modrm from to (reg-low from h.1) h.0)
bytes-spelling (MovFrom to from) h = (omega arith, bytes-modrm to from (reg-low to h.0) (of-memory from h.1))
bytes-spelling (MovImm to imm) h = (let k = h.0.0 in omega (arith, k), bytes-dword imm)
bytes-spelling (MovToImm to imm) h = (omega arith, join (modrm 0 to) (dword imm) (bytes-modrm 0 to (omega arith) (of-memory to h.0)) (bytes-dword imm))
bytes-spelling (MovHalfTo to from) h = (omega arith, (omega arith, bytes-modrm from to (reg-low from h.1) (of-memory to h.0)))
bytes-spelling (MovByteTo to from) h = (omega arith, bytes-modrm from to (let k = h.1 in omega (arith, k)) (of-memory to h.0))
bytes-spelling (MovByteFrom to from) h = (omega arith, bytes-modrm to from (let k = h.0 in omega (arith, k)) (of-memory from h.1))
bytes-spelling (Shift op to by) h = (omega arith, join (modrm (shift_number op) to) (by ∷ []) (bytes-modrm (shift_number op) to (shift-low op) h.0) (let k = h.1 in omega (arith, k), tt))
bytes-spelling (ShiftByCl op to) h = (omega arith, bytes-modrm (shift_number op) to (shift-low op) h)
bytes-spelling (Lea to from) h = (omega arith, bytes-modrm to from (reg-low to h.0) (of-sum from h.1))
bytes-spelling (Extend MovzxByte to from) h = (omega arith, (omega arith, bytes-modrm to from (reg-low to h.0) (of-byte from h.1)))
bytes-spelling (Extend MovsxByte to from) h = (omega arith, (omega arith, bytes-modrm to from (reg-low to h.0) (of-byte from h.1)))
bytes-spelling (Extend MovzxHalf to from) h = (omega arith, (omega arith, bytes-modrm to from (reg-low to h.0) h.1))
bytes-spelling (Extend MovsxHalf to from) h = (omega arith, (omega arith, bytes-modrm to from (reg-low to h.0) h.1))
bytes-spelling (Bswap reg) h = (omega arith, (let k = h.0 in omega (arith, k), tt))
bytes-spelling (Set c to) h = (omega arith, (let k = condition-low c in omega (arith, k), bytes-modrm 0 to (omega arith) (of-byte to h)))
bytes-spelling (Cmov c to from) h = (omega arith, (let k = condition-low c in omega (arith, k), bytes-modrm to from (reg-low to h.0) h.1))
bytes-spelling (Bsr to from) h = (omega arith, (omega arith, bytes-modrm to from (reg-low to h.0) h.1))
bytes-spelling Cdq h = (omega arith, tt)
bytes-spelling (Jcc c rel) h = (omega arith, (let k = condition-low c in omega (arith, k), bytes-dword rel))
bytes-spelling (Jmp rel) h = (omega arith, bytes-dword rel)
bytes-spelling (JmpTo to) h = (omega arith, bytes-modrm 4 to (omega arith) h)
bytes-spelling Int80 h = (omega arith, (omega arith, tt))
bytes-spelling Int3 h = (omega arith, tt)
bytes-spelling Ud2 h = (omega arith, (omega arith, tt))

pub spelled-bytes : (op : Op) → IsInProfile op → (i : ℕ) → get_or (spelling op) i 0 < 256
spelled-bytes op h = bytes-at (spelling op) (bytes-spelling op h)

append-nil : (xs : List ℕ) → xs ++ [] ≡ xs
append-nil [] = refl
append-nil (x ∷ xs) = ap (λ ys. x ∷ ys) (append-nil xs)

-- one op is written so
pub op-same : (a b : Op) → IsInProfile a → IsInProfile b → encode_lower (spelling a) ≡ encode_lower (spelling b) → a ≡ b
op-same a b g h e =
    prefix_free a b [] [] g h (append-nil (spelling a) ∙ hexadecimal-same (spelling a) (spelling b) (bytes-spelling a g) (bytes-spelling b h) e ∙ sym (append-nil (spelling b)))
