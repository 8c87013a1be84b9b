-- The term of each row over plain words is the row.
use Rattle.std.proofs.Common.{◌≡◌, ℕ, zero, suc, ◌%◌, ◌^◌, ◌<◌, refl, ap, ◌∙◌, Bool, true, false, cond, not, eqb, arith}
use Rattle.std.proofs.lemmas.Bool.Decides.{nat_tests}
use Rattle.word_kit.specs.Prelude.{one_if, sign_extended, bit_of, byte_of, joined, shifted_left, shifted_arith, product_low, product_high, plain_operations}
use Rattle.ia_codec.specs.Prelude.{host_row, condition_holds, IsInProfile, highest_one}
use Rattle.ia_alu.proofs.Fits.{fits_is}
use Rattle.ia_codec.specs.declared.op.UnaryOp.TheVariants.{Not, Neg, Mul, Imul1, Div, Idiv}
use Rattle.ia_codec.specs.declared.op.ExtendOp.TheVariants.{MovzxByte, MovzxHalf, MovsxByte, MovsxHalf}
use Rattle.ia_codec.specs.declared.op.Condition.{Condition}
use Rattle.ia_codec.specs.declared.op.Condition.TheVariants.{Below, NotBelow, Equal, NotEqual, NotAbove, Above, Sign, NotSign, Less, NotLess, NotGreater, Greater}
use Rattle.ia_codec.specs.declared.op.Op.{Op}
use Rattle.ia_codec.specs.declared.op.Op.TheVariants.{AluTo, AluFrom, AluImm, TestReg, TestImm, Unary, Imul, MovTo, MovFrom, MovImm, MovToImm, MovHalfTo, MovByteTo, MovByteFrom, Shift, ShiftByCl, Lea, Extend, Bswap, Set, Cmov, Bsr, Cdq, Jcc, Jmp, JmpTo, Int80, Int3, Ud2}
use Rattle.ia_alu.specs.declared.given.HostIn.{HostIn}
use Rattle.ia_alu.specs.Values.{values_of, outcome_of}
use Rattle.ia_alu.specs.Parts.{highest_term}
use Rattle.ia_alu.specs.Terms.{row_term, condition_term, imul_term}
use Rattle.ia_alu.proofs.Bits.{copies_is, one_is}
use Rattle.ia_alu.proofs.Flags.{not_not}
use Rattle.ia_alu.proofs.Told.{told}
use Rattle.ia_alu.proofs.SumRows.{alu_is, test_is, difference_row}
use Rattle.ia_alu.proofs.ShiftRows.{shift_is}

product_lt : (x y : ℕ) → product_low x y < 2 ^ 32
product_lt x y = omega arith

byte_is : (y : ℕ) → byte_of y 0 ≡ y % 256
byte_is y = omega arith

half_is : (y : ℕ) → joined 0 0 (byte_of y 1) (byte_of y 0) ≡ y % 65536
half_is y = omega arith

signed_byte : (y : ℕ) → y < 2 ^ 32 → shifted_arith (shifted_left y 24) 24 ≡ sign_extended 8 (y % 2 ^ 8)
signed_byte y h = grind (arith, nat_tests)

signed_half : (y : ℕ) → y < 2 ^ 32 → shifted_arith (shifted_left y 16) 16 ≡ sign_extended 16 (y % 2 ^ 16)
signed_half y h = grind (arith, nat_tests)

highest_is : (n y : ℕ) → (highest_term plain_operations n tt y).word ≡ highest_one n y
unfolding highest_term highest_one
highest_is zero y = refl
highest_is (suc n) y = ap (λ m. cond (bit_of y n) n m) (highest_is n y)

module _ {A : Type 0} where
  condition_is : (c : Condition) (g : HostIn A ℕ Bool) → (condition_term plain_operations c tt g).flag ≡ condition_holds c (record { cf = g.cf; zf = g.zf; sf = g.sf; of = g.of })
  condition_is Below g = refl
  condition_is NotBelow g = refl
  condition_is Equal g = refl
  condition_is NotEqual g = refl
  condition_is NotAbove g = refl
  condition_is Above g = refl
  condition_is Sign g = refl
  condition_is NotSign g = refl
  condition_is Less g = refl
  condition_is NotLess g = not_not _
  condition_is NotGreater g = refl
  condition_is Greater g = refl

  imul_is : (g : HostIn A ℕ Bool) → g.x < 2 ^ 32 → g.y < 2 ^ 32 → outcome_of (λ n. n) (λ b. b) (imul_term plain_operations tt g).effect ≡ host_row (Imul 0 (Rattle.ia_codec.specs.declared.op.Operand.TheVariants.Reg 0)) (values_of (λ n. n) (λ b. b) g)
  imul_is g hx hy = ap (λ (b : Bool). told (product_low g.x g.y) g.high (not b) g.free_zf g.free_sf (not b) false false) (ap (λ n. eqb (product_high g.x g.y true) n) (copies_is (product_low g.x g.y) (product_lt g.x g.y)) ∙ fits_is g.x g.y hx hy)

  with_result : (g : HostIn A ℕ Bool) {r r' : ℕ} → r ≡ r' → told r g.high g.cf g.zf g.sf g.of false false ≡ told r' g.high g.cf g.zf g.sf g.of false false
  with_result g e = ap (λ n. told n g.high g.cf g.zf g.sf g.of false false) e

  pub row_is : (op : Op) (g : HostIn A ℕ Bool) → IsInProfile op → g.x < 2 ^ 32 → g.y < 2 ^ 32 → outcome_of (λ n. n) (λ b. b) (row_term plain_operations op tt g).effect ≡ host_row op (values_of (λ n. n) (λ b. b) g)
  row_is (AluTo op to from) g p hx hy = alu_is op g hx hy
  row_is (AluFrom op to from) g p hx hy = alu_is op g hx hy
  row_is (AluImm op to imm) g p hx hy = alu_is op g hx hy
  row_is (TestReg a b) g p hx hy = test_is g hx hy
  row_is (TestImm a imm) g p hx hy = test_is g hx hy
  row_is (Unary Not on) g p hx hy = refl
  row_is (Unary Neg on) g p hx hy = difference_row 0 g.y false g (omega arith) hy
  row_is (Unary Mul on) g p hx hy = refl
  row_is (Unary Imul1 on) g p hx hy = ap (λ s. told (product_low g.x g.y) (product_high g.x g.y true) (not (eqb (product_high g.x g.y true) s)) g.free_zf g.free_sf (not (eqb (product_high g.x g.y true) s)) false false) (copies_is (product_low g.x g.y) (product_lt g.x g.y))
  row_is (Unary Div on) g p hx hy = refl
  row_is (Unary Idiv on) g p hx hy = refl
  row_is (Imul to from) g p hx hy = imul_is g hx hy
  row_is (MovTo to from) g p hx hy = refl
  row_is (MovFrom to from) g p hx hy = refl
  row_is (MovImm to imm) g p hx hy = refl
  row_is (MovToImm to imm) g p hx hy = refl
  row_is (MovHalfTo to from) g p hx hy = with_result g (half_is g.y)
  row_is (MovByteTo to from) g p hx hy = with_result g (byte_is g.y)
  row_is (MovByteFrom to from) g p hx hy = with_result g (byte_is g.y)
  row_is (Shift op to by) g p hx hy = shift_is op by g hx (let l = p.1 in omega (arith, l))
  row_is (ShiftByCl op to) g p hx hy = shift_is op g.y g hx hy
  row_is (Lea to from) g p hx hy = refl
  row_is (Extend MovzxByte to from) g p hx hy = with_result g (byte_is g.y)
  row_is (Extend MovzxHalf to from) g p hx hy = with_result g (half_is g.y)
  row_is (Extend MovsxByte to from) g p hx hy = with_result g (signed_byte g.y hy)
  row_is (Extend MovsxHalf to from) g p hx hy = with_result g (signed_half g.y hy)
  row_is (Bswap reg) g p hx hy = refl
  row_is (Set c to) g p hx hy = ap (λ n. told n g.high g.cf g.zf g.sf g.of (condition_term plain_operations c tt g).flag false) (one_is (condition_term plain_operations c tt g).flag) ∙ ap (λ (b : Bool). told (one_if b) g.high g.cf g.zf g.sf g.of b false) (condition_is c g)
  row_is (Cmov c to from) g p hx hy = ap (λ (b : Bool). told (cond b g.y g.x) g.high g.cf g.zf g.sf g.of b false) (condition_is c g)
  row_is (Bsr to from) g p hx hy = ap (λ n. told (cond (eqb g.y 0) g.free n) g.high g.free_cf (eqb g.y 0) g.free_sf g.free_of false false) (highest_is 32 g.y)
  row_is Cdq g p hx hy = ap (λ n. told g.x n g.cf g.zf g.sf g.of false false) (copies_is g.x hx)
  row_is (Jcc c rel) g p hx hy = ap (λ (b : Bool). told g.x g.high g.cf g.zf g.sf g.of b false) (condition_is c g)
  row_is (Jmp rel) g p hx hy = refl
  row_is (JmpTo to) g p hx hy = refl
  row_is Int80 g p hx hy = refl
  row_is Int3 g p hx hy = refl
  row_is Ud2 g p hx hy = refl
