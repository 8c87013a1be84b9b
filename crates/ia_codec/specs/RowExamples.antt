-- Rows of ops, worked out by hand: the flags were off, and what is free is chosen as 99 and as flags that are on.
use Rattle.std.specs.Prelude.{◌≡◌, ℕ, Bool, true, false}
use Rattle.ia_codec.specs.Types.{Reg, Rol, Ror, Shl, Shr, Sar, Neg, Mul, Imul1, Div, Idiv, Op, Unary, Imul, ShiftByCl, Bsr, Bswap}
use Rattle.ia_codec.specs.Effect.{Flags, HostValues}
use Rattle.ia_codec.specs.Rows.{host_row}

abbrev pub flags : Bool → Bool → Bool → Bool → Flags
flags cf zf sf of = record { cf = cf; zf = zf; sf = sf; of = of }

abbrev pub on : ℕ → ℕ → ℕ → HostValues
on high x y = record { x = x; y = y; high = high; flags = flags false false false false; free = 99; free_flags = flags true true true true }

-- the op makes of edx and the operands these halves and flags, and doesn't fault
abbrev pub Makes : Op → HostValues → ℕ → ℕ → Flags → Type 0
Makes op v high result after = host_row op v ≡ record { result = result; high = high; flags = after; holds = false; faults = false }

-- 1, 2 and 32 of cl: the last is no shift
pub record ShiftsShown : Type 0 where
  pub shl_1 : Makes (ShiftByCl Shl (Reg 0)) (on 5 0x80000001 1) 5 2 (flags true false false true)
  pub shl_2 : Makes (ShiftByCl Shl (Reg 0)) (on 5 0x80000001 2) 5 4 (flags false false false true)
  pub shl_32 : Makes (ShiftByCl Shl (Reg 0)) (on 5 0x80000001 32) 5 0x80000001 (flags false false false false)
  pub shr_1 : Makes (ShiftByCl Shr (Reg 0)) (on 5 1 1) 5 0 (flags true true false false)
  pub sar_31 : Makes (ShiftByCl Sar (Reg 0)) (on 5 0x80000000 31) 5 0xffffffff (flags false false true true)
  pub rol_1 : Makes (ShiftByCl Rol (Reg 0)) (on 5 0x80000000 1) 5 1 (flags true false false true)
  pub ror_1 : Makes (ShiftByCl Ror (Reg 0)) (on 5 3 1) 5 0x80000001 (flags true false false true)
  pub ror_33 : Makes (ShiftByCl Ror (Reg 0)) (on 5 2 33) 5 1 (flags false false false false)

pub record ProductsShown : Type 0 where
  pub mul_long : Makes (Unary Mul (Reg 1)) (on 5 0x80000000 2) 1 0 (flags true true true true)
  pub mul_short : Makes (Unary Mul (Reg 1)) (on 5 3 4) 0 12 (flags false true true false)
  pub imul1_short : Makes (Unary Imul1 (Reg 1)) (on 5 0xffffffff 0xffffffff) 0 1 (flags false true true false)
  pub imul1_long : Makes (Unary Imul1 (Reg 1)) (on 5 0x8000 0x10000) 0 0x80000000 (flags true true true true)
  pub imul_short : Makes (Imul 1 (Reg 1)) (on 5 0x8000 0xffff0000) 5 0x80000000 (flags false true true false)
  pub imul_long : Makes (Imul 1 (Reg 1)) (on 5 0x8000 0x10000) 5 0x80000000 (flags true true true true)

-- -7 by 2 is -3, and -1 is left
pub record DivisionsShown : Type 0 where
  pub div : Makes (Unary Div (Reg 1)) (on 1 0 3) 1 0x55555555 (flags true true true true)
  pub idiv : Makes (Unary Idiv (Reg 1)) (on 0xffffffff 0xfffffff9 2) 0xffffffff 0xfffffffd (flags true true true true)
  pub by_0 : (host_row (Unary Div (Reg 1)) (on 0 7 0)).faults ≡ true
  pub too_long : (host_row (Unary Div (Reg 1)) (on 1 0 1)).faults ≡ true
  pub idiv_too_long : (host_row (Unary Idiv (Reg 1)) (on 0xffffffff 0x80000000 0xffffffff)).faults ≡ true

pub record OthersShown : Type 0 where
  pub bsr : Makes (Bsr 0 (Reg 1)) (on 5 7 0x00010001) 5 16 (flags true false true true)
  pub bsr_of_0 : Makes (Bsr 0 (Reg 1)) (on 5 7 0) 5 99 (flags true true true true)
  pub bswap : Makes (Bswap 0) (on 5 7 0x11223344) 5 0x44332211 (flags false false false false)
  pub neg_of_0 : Makes (Unary Neg (Reg 1)) (on 5 7 0) 5 0 (flags false true false false)
  pub neg_of_least : Makes (Unary Neg (Reg 1)) (on 5 7 0x80000000) 5 0x80000000 (flags true false true true)
