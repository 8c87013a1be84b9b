-- Rows of IA-32, worked out by hand. Flags are CF, ZF, SF, OF; what is free is chosen as flags that are on.
use Rattle.std.specs.Prelude.{◌≡◌, ℕ, true, false}
use Rattle.machines.specs.Prelude.{Reg, AluOp, Add, Adc, Sub, Sbb, And, Or, Xor, Cmp, ShiftOp, Rol, Ror, Shl, Shr, Sar, MovzxByte, MovsxByte, MovsxHalf, Below, AluTo, TestReg, Shift, Extend, Cmov, Cdq, Flags, HostValues, host_row}
use Rattle.ia_codec.specs.RowExamples.{flags, on, Makes}

-- the same operands with a carry that comes in, and with all flags on
abbrev pub with_carry : ℕ → ℕ → HostValues
with_carry x y = record (on 5 x y) { flags = flags true false false false }

abbrev pub with_flags : ℕ → ℕ → HostValues
with_flags x y = record (on 5 x y) { flags = flags true true true true }

-- the op on x and y leaves this result and these flags, and edx as it was
abbrev pub Leaves : AluOp → HostValues → ℕ → Flags → Type 0
Leaves op v result after = Makes (AluTo op (Reg 0) 1) v 5 result after

pub record SumsShown : Type 0 where
  pub overflows : Leaves Add (on 5 0x7fffffff 1) 0x80000000 (flags false false true true)
  pub carries : Leaves Add (on 5 0xffffffff 1) 0 (flags true true false false)
  pub least_twice : Leaves Add (on 5 0x80000000 0x80000000) 0 (flags true true false true)
  pub adds_the_carry : Leaves Adc (with_carry 0xffffffff 0) 0 (flags true true false false)
  pub carry_overflows : Leaves Adc (with_carry 0x7fffffff 0) 0x80000000 (flags false false true true)
  pub carries_through : Leaves Adc (with_carry 5 0xffffffff) 5 (flags true false false false)
  pub no_carry : Leaves Adc (on 5 3 4) 7 (flags false false false false)
  pub borrows : Leaves Sub (on 5 0 1) 0xffffffff (flags true false true false)
  pub least_less_1 : Leaves Sub (on 5 0x80000000 1) 0x7fffffff (flags false false false true)
  pub takes_the_borrow : Leaves Sbb (with_carry 0 0) 0xffffffff (flags true false true false)
  pub borrows_through : Leaves Sbb (with_carry 5 0xffffffff) 5 (flags true false false false)
  pub no_borrow : Leaves Sbb (on 5 7 7) 0 (flags false true false false)
  pub compares : Leaves Cmp (on 5 7 7) 7 (flags false true false false)

pub record LogicShown : Type 0 where
  pub ands : Leaves And (with_flags 0xf0f0f0f0 0x8000000f) 0x80000000 (flags false false true false)
  pub ors : Leaves Or (with_flags 0x0f 0xf0) 0xff (flags false false false false)
  pub xors : Leaves Xor (with_flags 7 7) 0 (flags false true false false)
  pub tests : Makes (TestReg (Reg 0) 1) (with_flags 7 8) 5 7 (flags false true false false)

-- Below holds with CF alone
pub record MovesShown : Type 0 where
  pub moves : host_row (Cmov Below 0 (Reg 1)) (with_carry 1 2) ≡ record { result = 2; high = 5; flags = flags true false false false; holds = true; faults = false }
  pub keeps : Makes (Cmov Below 0 (Reg 1)) (on 5 1 2) 5 1 (flags false false false false)
  pub byte_sign : Makes (Extend MovsxByte 0 (Reg 1)) (on 5 1 0x180) 5 0xffffff80 (flags false false false false)
  pub half_sign : Makes (Extend MovsxHalf 0 (Reg 1)) (on 5 1 0x18000) 5 0xffff8000 (flags false false false false)
  pub no_sign : Makes (Extend MovsxHalf 0 (Reg 1)) (on 5 1 0x17fff) 5 0x7fff (flags false false false false)
  pub zeros : Makes (Extend MovzxByte 0 (Reg 1)) (on 5 1 0x180) 5 0x80 (flags false false false false)
  pub copies_the_sign : Makes Cdq (on 5 0x80000000 1) 0xffffffff 0x80000000 (flags false false false false)
  pub copies_no_sign : Makes Cdq (on 5 0x7fffffff 1) 0 0x7fffffff (flags false false false false)

-- the op on x by a written count leaves this; the second operand is not looked at
abbrev pub Shifts : ShiftOp → ℕ → HostValues → ℕ → Flags → Type 0
Shifts op count v result after = Makes (Shift op (Reg 0) count) v 5 result after

pub record WrittenCountsShown : Type 0 where
  pub none : Shifts Shl 0 (with_flags 1 9) 1 (flags true true true true)
  pub shl : Shifts Shl 1 (on 5 0x40000000 9) 0x80000000 (flags false false true true)
  pub shr : Shifts Shr 1 (on 5 0x80000001 9) 0x40000000 (flags true false false true)
  pub sar : Shifts Sar 1 (on 5 0x80000001 9) 0xc0000000 (flags true false true false)
  pub sar_4 : Shifts Sar 4 (on 5 0x80000008 9) 0xf8000000 (flags true false true true)
  pub shr_31 : Shifts Shr 31 (on 5 0x80000000 9) 1 (flags false false false true)
  pub rol_8 : Shifts Rol 8 (on 5 0x11223344 9) 0x22334411 (flags true false false true)
  pub ror_8 : Shifts Ror 8 (on 5 0x11223344 9) 0x44112233 (flags false false false true)
