-- Which values an op of a body reads, where its results go, and what it may leave undefined: the machine's ops as a table. This
-- project's own.
use Rattle.std.specs.Prelude.{◌≡◌, ℕ, ◌%◌, ◌^◌, ◌&&◌, if◌then◌else◌, Bool, true, false, Option, Some}
use Rattle.machines.specs.Prelude.{Operand, Reg, AluOp, Cmp, Not, Neg, Op, AluTo, AluFrom, AluImm, TestReg, TestImm, Unary, Imul, MovTo, MovFrom, MovImm, MovToImm, MovHalfTo, MovByteTo, MovByteFrom, Shift, ShiftByCl, Lea, Extend, Bswap, Set, Cmov, Bsr, Cdq, Flags, HostValues, HostEffect, host_row, eax, ecx, edx, Rights, update, Choice, Core, place_of, address_in, byte_for, puts_both, host_values, reads, puts, bind, does, extend_size}
use Rattle.rule_body.specs.Prelude.{is_straight}

-- 0, an operand of so many bytes, the op's own immediate, cl, or the address of an operand
pub data Source : Type 0 where
  Zero : Source
  OperandValue : (size : ℕ) (operand : Operand) → Source
  OwnNumber : Source
  CountByte : Source
  AddressValue : (operand : Operand) → Source

abbrev pub register : ℕ → Source
register r = OperandValue 4 (Reg r)

abbrev pub x_source : Op → Source
x_source (AluTo op to from) = OperandValue 4 to
x_source (AluFrom op to from) = register to
x_source (AluImm op to imm) = OperandValue 4 to
x_source (TestReg a b) = OperandValue 4 a
x_source (TestImm a imm) = OperandValue 4 a
x_source (Unary Not on) = Zero
x_source (Unary Neg on) = Zero
x_source (Unary op on) = register eax
x_source (Imul to from) = register to
x_source (Shift op to by) = OperandValue 4 to
x_source (ShiftByCl op to) = OperandValue 4 to
x_source (Cmov condition to from) = register to
x_source (Bsr to from) = register to
x_source Cdq = register eax
x_source op = Zero

abbrev pub y_source : Op → Source
y_source (AluTo op to from) = register from
y_source (AluFrom op to from) = OperandValue 4 from
y_source (AluImm op to imm) = OwnNumber
y_source (TestReg a b) = register b
y_source (TestImm a imm) = OwnNumber
y_source (Unary op on) = OperandValue 4 on
y_source (Imul to from) = OperandValue 4 from
y_source (MovTo to from) = register from
y_source (MovFrom to from) = OperandValue 4 from
y_source (MovImm to imm) = OwnNumber
y_source (MovToImm to imm) = OwnNumber
y_source (MovHalfTo to from) = register from
y_source (MovByteTo to from) = register from
y_source (MovByteFrom to from) = OperandValue 1 from
y_source (Shift op to by) = OwnNumber
y_source (ShiftByCl op to) = CountByte
y_source (Lea to from) = AddressValue from
y_source (Extend op to from) = OperandValue (extend_size op) from
y_source (Bswap reg) = register reg
y_source (Cmov condition to from) = OperandValue 4 from
y_source (Bsr to from) = OperandValue 4 from
y_source op = Zero

-- to no place, to an operand of so many bytes, to the lowest byte of a register or to a byte of memory, both results to eax and
-- edx, or the second one alone to edx
pub data Destination : Type 0 where
  Nowhere : Destination
  ToOperand : (size : ℕ) (operand : Operand) → Destination
  ToByte : (operand : Operand) → Destination
  ToBoth : Destination
  ToHigh : Destination

abbrev pub alu_destination : AluOp → Operand → Destination
alu_destination Cmp to = Nowhere
alu_destination op to = ToOperand 4 to

abbrev pub destination : Op → Destination
destination (AluTo op to from) = alu_destination op to
destination (AluFrom op to from) = alu_destination op (Reg to)
destination (AluImm op to imm) = alu_destination op to
destination (Unary Not on) = ToOperand 4 on
destination (Unary Neg on) = ToOperand 4 on
destination (Unary op on) = ToBoth
destination (Imul to from) = ToOperand 4 (Reg to)
destination (MovTo to from) = ToOperand 4 to
destination (MovFrom to from) = ToOperand 4 (Reg to)
destination (MovImm to imm) = ToOperand 4 (Reg to)
destination (MovToImm to imm) = ToOperand 4 to
destination (MovHalfTo to from) = ToOperand 2 to
destination (MovByteTo to from) = ToOperand 1 to
destination (MovByteFrom to from) = ToByte (Reg to)
destination (Shift op to by) = ToOperand 4 to
destination (ShiftByCl op to) = ToOperand 4 to
destination (Lea to from) = ToOperand 4 (Reg to)
destination (Extend op to from) = ToOperand 4 (Reg to)
destination (Bswap reg) = ToOperand 4 (Reg reg)
destination (Set condition to) = ToByte to
destination (Cmov condition to from) = ToOperand 4 (Reg to)
destination (Bsr to from) = ToOperand 4 (Reg to)
destination Cdq = ToHigh
destination op = Nowhere

-- the immediate, or the written count
abbrev pub own_number : Op → ℕ
own_number (AluImm op to imm) = imm
own_number (TestImm a imm) = imm
own_number (MovImm to imm) = imm
own_number (MovToImm to imm) = imm
own_number (Shift op to by) = by
own_number op = 0

-- What an op may leave undefined (Intel SDM volume 2): OF of a shift or rotate; ZF and SF of a product; the result of a bit
-- scan, and its flags but ZF.
abbrev pub is_shift : Op → Bool
is_shift (Shift op to by) = true
is_shift (ShiftByCl op to) = true
is_shift op = false

abbrev pub is_multiply : Op → Bool
is_multiply (Unary Not on) = false
is_multiply (Unary Neg on) = false
is_multiply (Unary op on) = true
is_multiply (Imul to from) = true
is_multiply op = false

abbrev pub leaves_result : Op → Bool
leaves_result (Bsr to from) = true
leaves_result op = false

abbrev pub leaves_cf : Op → Bool
leaves_cf (Bsr to from) = true
leaves_cf op = false

abbrev pub leaves_zf : Op → Bool
leaves_zf op = is_multiply op

abbrev pub leaves_sf : Op → Bool
leaves_sf (Bsr to from) = true
leaves_sf op = is_multiply op

abbrev pub leaves_of : Op → Bool
leaves_of (Bsr to from) = true
leaves_of op = is_shift op

-- of the chosen flags those that an op may leave
abbrev pub left_flags : Op → Flags → Flags
left_flags op f = record { cf = leaves_cf op && f.cf; zf = leaves_zf op && f.zf; sf = leaves_sf op && f.sf; of = leaves_of op && f.of }

-- the values of an op, with 0 for what is chosen of the result and the flags where it leaves none
abbrev pub left_values : Op → HostValues → HostValues
left_values op v = record v { free = if leaves_result op then v.free else 0; free_flags = left_flags op v.free_flags }

module _ (rights : Rights) where
  abbrev pub source_value : Source → Op → Core → Option ℕ
  source_value Zero op core = Some 0
  source_value (OperandValue size operand) op core = reads rights core (place_of size operand core.regs)
  source_value OwnNumber op core = Some (own_number op)
  source_value CountByte op core = Some (core.regs ecx % 2 ^ 8)
  source_value (AddressValue operand) op core = Some (address_in (place_of 4 operand core.regs))

  abbrev pub put_result : Destination → HostEffect → Core → Option Core
  put_result Nowhere e core = Some (record core { flags = e.flags })
  put_result (ToOperand size operand) e core = puts rights (record core { flags = e.flags }) (place_of size operand core.regs) e.result
  put_result (ToByte operand) e core = puts rights core (place_of 1 operand core.regs) (byte_for operand core e.result)
  put_result ToBoth e core = Some (puts_both e core)
  put_result ToHigh e core = Some (record core { regs = update core.regs edx e.high })

  -- the op by its sources, its row and its destination
  abbrev pub shaped : Op → Choice → Core → Option Core
  shaped op c core = bind (source_value (x_source op) op core) (λ x. bind (source_value (y_source op) op core) (λ y. put_result (destination op) (host_row op (host_values c core x y)) core))

-- An op of a body does what the table says.
abbrev pub OpsHaveShapes : Type 0
OpsHaveShapes = (rights : Rights) (op : Op) (c : Choice) (core : Core) → is_straight op ≡ true → does rights op c core ≡ shaped rights op c core

-- Its row depends on what is chosen for the bits that it may leave undefined, and on no other choice.
abbrev pub OpsLeaveAtMost : Type 0
OpsLeaveAtMost = (op : Op) (v : HostValues) → is_straight op ≡ true → host_row op v ≡ host_row op (left_values op v)
