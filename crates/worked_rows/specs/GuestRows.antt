-- Rows of PowerPC, worked out by hand. What Book I leaves undefined of a quotient is 0, which is this project's own.
use Rattle.std.specs.Prelude.{ℕ, ◌≡◌, false}
use Rattle.machines.specs.Prelude.{CompareImmediate, Arithmetic, Logic, ShiftImmediate, LogicUnary, Compare, LoadUpdate, StoreUpdate, LoadIndexed, StoreIndexed, LoadIndexedUpdate, StoreIndexedUpdate, ArithmeticOp, Mulhw, Mulhwu, Divw, Divwu, Sraw, Cntlzw, CompareOp, Cmp, Cmpl, Cmpi, Cmpli, Lwzu, Lbzu, Lhzu, Stbu, Sthu, Lwzx, Lbzx, Lhzx, Lhax, Stwx, Stbx, Sthx, Lbzux, Lhzux, Lhaux, Stwux, Sthux, guest_row}
use Rattle.ppc_isa.specs.Examples.{values, loading, load_of, store_of}

-- rD of an op on rA and rB
abbrev pub d_of : ArithmeticOp → ℕ → ℕ → ℕ
d_of op a b = (guest_row (Arithmetic op 3 4 5 false) (values a b 0 0 0 0 0)).d

-- -1 by 1; the least number by 2 and by itself; -1 by -1
pub record ProductsShown : Type 0 where
  pub signed : d_of Mulhw 0xffffffff 1 ≡ 0xffffffff
  pub unsigned : d_of Mulhwu 0xffffffff 1 ≡ 0
  pub least_signed : d_of Mulhw 0x80000000 2 ≡ 0xffffffff
  pub least_unsigned : d_of Mulhwu 0x80000000 2 ≡ 1
  pub square : d_of Mulhw 0x80000000 0x80000000 ≡ 0x40000000
  pub minus_ones : d_of Mulhw 0xffffffff 0xffffffff ≡ 0
  pub greatest : d_of Mulhwu 0xffffffff 0xffffffff ≡ 0xfffffffe

-- -7 by 2 and 7 by -2 are -3; as they stand, -7 by 2 is 0x7ffffffc
pub record DivisionsShown : Type 0 where
  pub negative : d_of Divw 0xfffffff9 2 ≡ 0xfffffffd
  pub by_negative : d_of Divw 7 0xfffffffe ≡ 0xfffffffd
  pub least : d_of Divw 0x80000000 1 ≡ 0x80000000
  pub by_0 : d_of Divw 7 0 ≡ 0
  pub least_by_minus_1 : d_of Divw 0x80000000 0xffffffff ≡ 0
  pub unsigned : d_of Divwu 0xfffffff9 2 ≡ 0x7ffffffc
  pub by_greatest : d_of Divwu 0xffffffff 0xffffffff ≡ 1
  pub unsigned_by_0 : d_of Divwu 7 0 ≡ 0

-- CR behind a comparison into field 0, without SO and with it
abbrev pub compared : CompareOp → ℕ → ℕ → ℕ → ℕ
compared op xer a b = (guest_row (Compare op 0 4 5) (values a b 0 0 xer 0 0)).cr

-- LT is 8 in the highest field, GT 4, EQ 2, and SO 1
pub record ComparesShown : Type 0 where
  pub signed : compared Cmp 0 0xffffffff 1 ≡ 0x80000000
  pub unsigned : compared Cmpl 0 0xffffffff 1 ≡ 0x40000000
  pub greater : compared Cmp 0 1 0xffffffff ≡ 0x40000000
  pub equal : compared Cmp 0 0xffffffff 0xffffffff ≡ 0x20000000
  pub with_so : compared Cmp 0x80000000 0xffffffff 1 ≡ 0x90000000
  pub immediate : (guest_row (CompareImmediate Cmpi 0 4 0xffff) (values 1 0xffffffff 0 0 0 0 0)).cr ≡ 0x40000000
  pub immediate_unsigned : (guest_row (CompareImmediate Cmpli 0 4 0xffff) (values 1 0xffff 0 0 0 0 0)).cr ≡ 0x80000000

-- rA and XER behind sraw and srawi of rS, where XER was 0; CA is 0x20000000
abbrev pub by_register : ℕ → ℕ → ℕ × ℕ
by_register s b = let e = guest_row (Logic Sraw 3 4 5 false) (values 0 b s 0 0 0 0) in (e.a, e.xer)

abbrev pub by_count : ℕ → ℕ → ℕ × ℕ
by_count s count = let e = guest_row (ShiftImmediate 3 4 count false) (values 0 0 s 0 0 0 0) in (e.a, e.xer)

-- of the amount the low six bits count, so 64 is 0
pub record ShiftsShown : Type 0 where
  pub drops_a_one : by_register 0x80000001 1 ≡ (0xc0000000, 0x20000000)
  pub drops_none : by_register 0xfffffffe 1 ≡ (0xffffffff, 0)
  pub by_0 : by_register 0x80000001 64 ≡ (0x80000001, 0)
  pub by_31 : by_register 0x80000000 31 ≡ (0xffffffff, 0)
  pub by_32 : by_register 0x80000000 32 ≡ (0xffffffff, 0x20000000)
  pub positive : by_register 0x7fffffff 63 ≡ (0, 0)
  pub written : by_count 0x80000001 1 ≡ (0xc0000000, 0x20000000)
  pub written_0 : by_count 0x80000001 0 ≡ (0x80000001, 0)
  pub zeros_of_0 : (guest_row (LogicUnary Cntlzw 3 4 false) (values 0 0 0 0 0 0 0)).a ≡ 32
  pub zeros_of_1 : (guest_row (LogicUnary Cntlzw 3 4 false) (values 0 0 1 0 0 0 0)).a ≡ 31

-- the kinds of access that ppc_isa's examples lack: width, address, rD and rA
pub record LoadsShown : Type 0 where
  pub lwzu : guest_row (LoadUpdate Lwzu 3 4 8) (loading 0x89abcdef 0x1000 8 7) ≡ load_of 4 0x1008 0x89abcdef 0x1008
  pub lbzu : guest_row (LoadUpdate Lbzu 3 4 8) (loading 0xfe 0x1000 8 7) ≡ load_of 1 0x1008 0xfe 0x1008
  pub lhzu : guest_row (LoadUpdate Lhzu 3 4 8) (loading 0x8001 0x1000 8 7) ≡ load_of 2 0x1008 0x8001 0x1008
  pub lwzx : guest_row (LoadIndexed Lwzx 3 4 5) (loading 0x89abcdef 0x1000 0x20 7) ≡ load_of 4 0x1020 0x89abcdef 0x1000
  pub lbzx : guest_row (LoadIndexed Lbzx 3 0 5) (loading 0xfe 0x1000 0x20 7) ≡ load_of 1 0x20 0xfe 0x1000
  pub lhzx : guest_row (LoadIndexed Lhzx 3 4 5) (loading 0x8001 0xfffffff0 0x20 7) ≡ load_of 2 0x10 0x8001 0xfffffff0
  pub lhax : guest_row (LoadIndexed Lhax 3 4 5) (loading 0x8001 0x1000 0x20 7) ≡ load_of 2 0x1020 0xffff8001 0x1000
  pub lbzux : guest_row (LoadIndexedUpdate Lbzux 3 4 5) (loading 0xfe 0x1000 0x20 7) ≡ load_of 1 0x1020 0xfe 0x1020
  pub lhzux : guest_row (LoadIndexedUpdate Lhzux 3 4 5) (loading 0x8001 0x1000 0x20 7) ≡ load_of 2 0x1020 0x8001 0x1020
  pub lhaux : guest_row (LoadIndexedUpdate Lhaux 3 4 5) (loading 0x8001 0x1000 0x20 7) ≡ load_of 2 0x1020 0xffff8001 0x1020

-- width, address, the number stored, rS and rA
pub record StoresShown : Type 0 where
  pub stbu : guest_row (StoreUpdate Stbu 3 4 8) (loading 0 0x1000 8 0x12345678) ≡ store_of 1 0x1008 0x78 0x12345678 0x1008
  pub sthu : guest_row (StoreUpdate Sthu 3 4 8) (loading 0 0x1000 8 0x12345678) ≡ store_of 2 0x1008 0x5678 0x12345678 0x1008
  pub stwx : guest_row (StoreIndexed Stwx 3 4 5) (loading 0 0x1000 0x20 0x12345678) ≡ store_of 4 0x1020 0x12345678 0x12345678 0x1000
  pub stbx : guest_row (StoreIndexed Stbx 3 0 5) (loading 0 0x1000 0x20 0x12345678) ≡ store_of 1 0x20 0x78 0x12345678 0x1000
  pub sthx : guest_row (StoreIndexed Sthx 3 4 5) (loading 0 0x1000 0x20 0x12345678) ≡ store_of 2 0x1020 0x5678 0x12345678 0x1000
  pub stwux : guest_row (StoreIndexedUpdate Stwux 3 4 5) (loading 0 0x1000 0x20 0x12345678) ≡ store_of 4 0x1020 0x12345678 0x12345678 0x1020
  pub sthux : guest_row (StoreIndexedUpdate Sthux 3 4 5) (loading 0 0x1000 0x20 0x12345678) ≡ store_of 2 0x1020 0x5678 0x12345678 0x1020
