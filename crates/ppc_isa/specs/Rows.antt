-- The rows of the instructions, over whole numbers: what each makes of the values that it reads.
-- Meanings are those of Power ISA Book I, in its sections' terms. Words are below 2^32.
use Rattle.std.specs.Prelude.{ℕ, ◌%◌, ◌^◌, Bool, true, false}
use Rattle.word_kit.specs.Prelude.{complement, with_bit, word_and, word_or, word_xor, product_low, product_high}
use Rattle.ppc_isa.specs.Instruction.{Instr, Immediate, LogicImmediate, Load, Store, LoadUpdate, StoreUpdate, Multiple, TrapImmediate, CompareImmediate, Rotate, Branch, BranchConditional, SystemCall, Arithmetic, ArithmeticUnary, Logic, ShiftImmediate, LogicUnary, Compare, Trap, MoveFromCr, MoveToCr, MoveFromSpr, MoveToSpr, Sync, LoadIndexed, StoreIndexed, LoadIndexedUpdate, StoreIndexedUpdate, MoveCrField, CrLogic, Isync, BranchRegister, ImmediateOp, Addi, Addis, Addic, AddicRecord, Subfic, Mulli, LoadOp, Lwz, Lbz, Lhz, Lha, StoreOp, Stw, Stb, Sth, LoadUpdateOp, Lwzu, Lbzu, Lhzu, Lhau, StoreUpdateOp, Stwu, Stbu, Sthu, Lmw, Stmw, CompareImmediateOp, Cmpi, Cmpli, ArithmeticOp, Add, Addc, Adde, Subf, Subfc, Subfe, Mullw, Mulhw, Mulhwu, Divw, Divwu, ArithmeticUnaryOp, Addze, Addme, Subfze, Subfme, Neg, LogicOp, And, Or, Xor, Nand, Nor, Eqv, Andc, Orc, Slw, Srw, Sraw, LogicUnaryOp, Cntlzw, Extsb, Extsh, CompareOp, Cmp, Cmpl, LoadIndexedOp, Lwzx, Lbzx, Lhzx, Lhax, Lwbrx, Lhbrx, StoreIndexedOp, Stwx, Stbx, Sthx, Stwbrx, Sthbrx, LoadIndexedUpdateOp, Lwzux, Lbzux, Lhzux, Lhaux, StoreIndexedUpdateOp, Stwux, Stbux, Sthux}
use Rattle.ppc_isa.specs.Locations.{logic_immediate_records}
use Rattle.ppc_isa.specs.Effect.{GuestValues, Effect, LoadAccess, StoreAccess, unchanged}
use Rattle.ppc_isa.specs.Recording.{place, ca, compared, gives_d, gives_a}
pub use Rattle.ppc_isa.specs.SumRows.{base}
use Rattle.ppc_isa.specs.SumRows.{ones, sum, sum_with, sum_carrying}
use Rattle.ppc_isa.specs.LogicRows.{logic_immediate}
use Rattle.ppc_isa.specs.ShiftRows.{left_by, right_by, shifted_algebraic, leading_zeros}
use Rattle.ppc_isa.specs.RotateRows.{rotate}
use Rattle.ppc_isa.specs.ProductRows.{quotient_signed, quotient_unsigned}
use Rattle.ppc_isa.specs.CompareRows.{trap_holds}
use Rattle.ppc_isa.specs.FieldRows.{cr_bit, cr_logic, field_moved, fields_put, special_value, special_put}
use Rattle.ppc_isa.specs.AccessRows.{address_of, word_reversed, half_reversed, half_extended, byte_extended, loads, stores, updates, multiple_width}
use Rattle.ppc_isa.specs.BranchRows.{branch_on}

-- 3.3.9; `b` is the immediate as the word that the row adds or multiplies
abbrev pub immediate_row : ImmediateOp → ℕ → GuestValues → Effect
immediate_row Addi a v = sum false (base a v) v.b v
immediate_row Addis a v = sum false (base a v) v.b v
immediate_row Addic a v = sum_carrying false v.a v.b false v
immediate_row AddicRecord a v = sum_carrying true v.a v.b false v
immediate_row Subfic a v = sum_carrying false (complement v.a) v.b true v
immediate_row Mulli a v = gives_d false (product_low v.a v.b) v

-- 3.3.9
abbrev pub arithmetic_row : ArithmeticOp → Bool → GuestValues → Effect
arithmetic_row Add records v = sum records v.a v.b v
arithmetic_row Addc records v = sum_carrying records v.a v.b false v
arithmetic_row Adde records v = sum_carrying records v.a v.b (ca v) v
arithmetic_row Subf records v = sum_with records (complement v.a) v.b true v
arithmetic_row Subfc records v = sum_carrying records (complement v.a) v.b true v
arithmetic_row Subfe records v = sum_carrying records (complement v.a) v.b (ca v) v
arithmetic_row Mullw records v = gives_d records (product_low v.a v.b) v
arithmetic_row Mulhw records v = gives_d records (product_high v.a v.b true) v
arithmetic_row Mulhwu records v = gives_d records (product_high v.a v.b false) v
arithmetic_row Divw records v = gives_d records (quotient_signed v.a v.b) v
arithmetic_row Divwu records v = gives_d records (quotient_unsigned v.a v.b) v

-- 3.3.9
abbrev pub arithmetic_unary_row : ArithmeticUnaryOp → Bool → GuestValues → Effect
arithmetic_unary_row Addze records v = sum_carrying records v.a 0 (ca v) v
arithmetic_unary_row Addme records v = sum_carrying records v.a ones (ca v) v
arithmetic_unary_row Subfze records v = sum_carrying records (complement v.a) 0 (ca v) v
arithmetic_unary_row Subfme records v = sum_carrying records (complement v.a) ones (ca v) v
arithmetic_unary_row Neg records v = sum_with records (complement v.a) 0 true v

-- 3.3.13 and 3.3.14
abbrev pub logic_row : LogicOp → Bool → GuestValues → Effect
logic_row And records v = gives_a records (word_and v.s v.b) v
logic_row Or records v = gives_a records (word_or v.s v.b) v
logic_row Xor records v = gives_a records (word_xor v.s v.b) v
logic_row Nand records v = gives_a records (complement (word_and v.s v.b)) v
logic_row Nor records v = gives_a records (complement (word_or v.s v.b)) v
logic_row Eqv records v = gives_a records (complement (word_xor v.s v.b)) v
logic_row Andc records v = gives_a records (word_and v.s (complement v.b)) v
logic_row Orc records v = gives_a records (word_or v.s (complement v.b)) v
logic_row Slw records v = gives_a records (left_by v.s (v.b % 64)) v
logic_row Srw records v = gives_a records (right_by v.s (v.b % 64)) v
logic_row Sraw records v = shifted_algebraic records (v.b % 64) v

-- 3.3.13
abbrev pub logic_unary_row : LogicUnaryOp → Bool → GuestValues → Effect
logic_unary_row Cntlzw records v = gives_a records (leading_zeros 32 v.s) v
logic_unary_row Extsb records v = gives_a records (byte_extended v.s) v
logic_unary_row Extsh records v = gives_a records (half_extended v.s) v

-- 3.3.10
abbrev pub compare_immediate_row : CompareImmediateOp → ℕ → GuestValues → Effect
compare_immediate_row Cmpi field v = record (unchanged v) { cr = compared true field v.a v.b v }
compare_immediate_row Cmpli field v = record (unchanged v) { cr = compared false field v.a v.b v }

abbrev pub compare_row : CompareOp → ℕ → GuestValues → Effect
compare_row Cmp field v = record (unchanged v) { cr = compared true field v.a v.b v }
compare_row Cmpl field v = record (unchanged v) { cr = compared false field v.a v.b v }

-- 3.3.2
abbrev pub load_row : LoadOp → ℕ → GuestValues → Effect
load_row Lwz a v = loads 4 (base a v) v.loaded v
load_row Lbz a v = loads 1 (base a v) v.loaded v
load_row Lhz a v = loads 2 (base a v) v.loaded v
load_row Lha a v = loads 2 (base a v) (half_extended v.loaded) v

abbrev pub load_update_row : LoadUpdateOp → GuestValues → Effect
load_update_row Lwzu v = updates (loads 4 v.a v.loaded v)
load_update_row Lbzu v = updates (loads 1 v.a v.loaded v)
load_update_row Lhzu v = updates (loads 2 v.a v.loaded v)
load_update_row Lhau v = updates (loads 2 v.a (half_extended v.loaded) v)

-- 3.3.2 and 3.3.4
abbrev pub load_indexed_row : LoadIndexedOp → ℕ → GuestValues → Effect
load_indexed_row Lwzx a v = loads 4 (base a v) v.loaded v
load_indexed_row Lbzx a v = loads 1 (base a v) v.loaded v
load_indexed_row Lhzx a v = loads 2 (base a v) v.loaded v
load_indexed_row Lhax a v = loads 2 (base a v) (half_extended v.loaded) v
load_indexed_row Lwbrx a v = loads 4 (base a v) (word_reversed v.loaded) v
load_indexed_row Lhbrx a v = loads 2 (base a v) (half_reversed v.loaded) v

abbrev pub load_indexed_update_row : LoadIndexedUpdateOp → GuestValues → Effect
load_indexed_update_row Lwzux v = updates (loads 4 v.a v.loaded v)
load_indexed_update_row Lbzux v = updates (loads 1 v.a v.loaded v)
load_indexed_update_row Lhzux v = updates (loads 2 v.a v.loaded v)
load_indexed_update_row Lhaux v = updates (loads 2 v.a (half_extended v.loaded) v)

-- 3.3.3: the low bytes of rS
abbrev pub store_row : StoreOp → ℕ → GuestValues → Effect
store_row Stw a v = stores 4 (base a v) v.s v
store_row Stb a v = stores 1 (base a v) (v.s % 2 ^ 8) v
store_row Sth a v = stores 2 (base a v) (v.s % 2 ^ 16) v

abbrev pub store_update_row : StoreUpdateOp → GuestValues → Effect
store_update_row Stwu v = updates (stores 4 v.a v.s v)
store_update_row Stbu v = updates (stores 1 v.a (v.s % 2 ^ 8) v)
store_update_row Sthu v = updates (stores 2 v.a (v.s % 2 ^ 16) v)

-- 3.3.3 and 3.3.4
abbrev pub store_indexed_row : StoreIndexedOp → ℕ → GuestValues → Effect
store_indexed_row Stwx a v = stores 4 (base a v) v.s v
store_indexed_row Stbx a v = stores 1 (base a v) (v.s % 2 ^ 8) v
store_indexed_row Sthx a v = stores 2 (base a v) (v.s % 2 ^ 16) v
store_indexed_row Stwbrx a v = stores 4 (base a v) (word_reversed v.s) v
store_indexed_row Sthbrx a v = stores 2 (base a v) (half_reversed v.s) v

abbrev pub store_indexed_update_row : StoreIndexedUpdateOp → GuestValues → Effect
store_indexed_update_row Stwux v = updates (stores 4 v.a v.s v)
store_indexed_update_row Stbux v = updates (stores 1 v.a (v.s % 2 ^ 8) v)
store_indexed_update_row Sthux v = updates (stores 2 v.a (v.s % 2 ^ 16) v)

abbrev pub guest_row : Instr → GuestValues → Effect
guest_row (Immediate op d a imm) v = immediate_row op a v
guest_row (LogicImmediate op s a imm) v = gives_a (logic_immediate_records op) (logic_immediate op v.s v.b) v
guest_row (Load op d a imm) v = load_row op a v
guest_row (Store op s a imm) v = store_row op a v
guest_row (LoadUpdate op d a imm) v = load_update_row op v
guest_row (StoreUpdate op s a imm) v = store_update_row op v
-- 3.3.5: all the words are one access; the machine moves them one by one
guest_row (Multiple Lmw d a imm) v = record (unchanged v) { address = address_of (base a v) v; width = multiple_width d; kind = LoadAccess }
guest_row (Multiple Stmw s a imm) v = record (unchanged v) { address = address_of (base a v) v; width = multiple_width s; kind = StoreAccess }
-- 3.3.11: `taken` says whether the trap is taken
guest_row (TrapImmediate to a imm) v = record (unchanged v) { taken = trap_holds to v.a v.b }
guest_row (CompareImmediate op field a imm) v = compare_immediate_row op field v
guest_row (Rotate op s a by mask_begin mask_end records) v = gives_a records (rotate op by mask_begin mask_end v) v
-- 2.4
guest_row (Branch target absolute link) v = record (unchanged v) { taken = true }
guest_row (BranchConditional bo bi target absolute link) v = branch_on bo bi v
-- 2.6: what the system does with the call is the machine's part
guest_row SystemCall v = unchanged v
guest_row (Arithmetic op d a b records) v = arithmetic_row op records v
guest_row (ArithmeticUnary op d a records) v = arithmetic_unary_row op records v
guest_row (Logic op s a b records) v = logic_row op records v
guest_row (ShiftImmediate s a by records) v = shifted_algebraic records by v
guest_row (LogicUnary op s a records) v = logic_unary_row op records v
guest_row (Compare op field a b) v = compare_row op field v
guest_row (Trap to a b) v = record (unchanged v) { taken = trap_holds to v.a v.b }
-- 3.3.17
guest_row (MoveFromCr d) v = record (unchanged v) { d = v.cr }
guest_row (MoveToCr s mask) v = record (unchanged v) { cr = fields_put mask v }
guest_row (MoveFromSpr d spr) v = record (unchanged v) { d = special_value spr v }
guest_row (MoveToSpr s spr) v = special_put spr v
guest_row Sync v = unchanged v
guest_row (LoadIndexed op d a b) v = load_indexed_row op a v
guest_row (StoreIndexed op s a b) v = store_indexed_row op a v
guest_row (LoadIndexedUpdate op d a b) v = load_indexed_update_row op v
guest_row (StoreIndexedUpdate op s a b) v = store_indexed_update_row op v
-- 2.5.1
guest_row (MoveCrField to from) v = record (unchanged v) { cr = field_moved to from v }
guest_row (CrLogic op d a b) v = record (unchanged v) { cr = with_bit v.cr (place d) (cr_logic op (cr_bit a v) (cr_bit b v)) }
guest_row Isync v = unchanged v
guest_row (BranchRegister op bo bi link) v = branch_on bo bi v
