-- Base tiles cost less than 1024. An op costs no more than the bytes that it may have, but a division costs 14 more, and a tile
-- has one at most.
use Rattle.std.proofs.Common.{◌≡◌, ℕ, zero, suc, ◌+◌, ◌-◌, ◌*◌, ◌<◌, ◌≤◌, ◌==◌, Bool, true, false, List, [], ◌∷◌, ◌++◌, length, if◌then◌else◌, Option, Some, None, refl, arith}
use Rattle.std.specs.List.{sum_by}
use Rattle.std.proofs.lemmas.List.Sums.{sum_by-cons}
use Rattle.machines.specs.Prelude.{mask, bit_of, Map, Instr, Immediate, LogicImmediate, Load, Store, LoadUpdate, StoreUpdate, Multiple, CompareImmediate, Rotate, Arithmetic, ArithmeticUnary, Logic, ShiftImmediate, LogicUnary, Compare, MoveFromCr, MoveToCr, MoveFromSpr, MoveToSpr, LoadIndexed, StoreIndexed, LoadIndexedUpdate, StoreIndexedUpdate, MoveCrField, CrLogic, Lmw, Stmw, Rlwinm, Rlwnm, Rlwimi, ImmediateOp, Addi, Addis, Addic, AddicRecord, Subfic, Mulli, ArithmeticOp, ArithmeticUnaryOp, LogicOp, LogicUnaryOp, Cntlzw, Extsb, Extsh, Cmpi, Cmpli, CrLogicOp, Crand, Cror, Crxor, Crnand, Crnor, Creqv, Crandc, Crorc, LoadOp as LoadForm, LoadUpdateOp, LoadIndexedOp, LoadIndexedUpdateOp, StoreOp as StoreForm, StoreUpdateOp, StoreIndexedOp, StoreIndexedUpdateOp, Operand, Reg, Abs, Base, Pair, Not, Neg, Mul, Imul1, Div, Idiv, Op, AluTo, AluFrom, AluImm, TestReg, TestImm, Unary, Imul, MovTo, MovFrom, MovToImm, MovHalfTo, MovByteTo, MovByteFrom, Shift, ShiftByCl, Extend, Set, Cmov, Bsr, JmpTo, cost_of, immediate_records, logic_immediate_records}
use Rattle.ppc_isa.specs.declared.instr.ArithmeticOp.TheVariants as arithmetic
use Rattle.ppc_isa.specs.declared.instr.ArithmeticUnaryOp.TheVariants as unary
use Rattle.ppc_isa.specs.declared.instr.LogicOp.TheVariants as logic
use Rattle.ppc_isa.specs.declared.instr.CompareOp.TheVariants as registers
use Rattle.ppc_isa.specs.declared.instr.LoadOp.TheVariants as load
use Rattle.ppc_isa.specs.declared.instr.LoadUpdateOp.TheVariants as load_update
use Rattle.ppc_isa.specs.declared.instr.LoadIndexedOp.TheVariants as load_indexed
use Rattle.ppc_isa.specs.declared.instr.LoadIndexedUpdateOp.TheVariants as load_indexed_update
use Rattle.ppc_isa.specs.declared.instr.StoreOp.TheVariants as store
use Rattle.ppc_isa.specs.declared.instr.StoreUpdateOp.TheVariants as store_update
use Rattle.ppc_isa.specs.declared.instr.StoreIndexedOp.TheVariants as store_indexed
use Rattle.ppc_isa.specs.declared.instr.StoreIndexedUpdateOp.TheVariants as store_indexed_update
use Rattle.ia_codec.specs.Cost.{in_memory, memory_operands, work}
use Rattle.reg_map.specs.Prelude.{slot_of, place_in, mov_from, alu_from}
use Rattle.symbolic_tiles.specs.declared.flow_op.FlowOp.{FlowOp}
use Rattle.symbolic_tiles.specs.declared.flow_op.FlowOp.TheVariants.{Plain, Jump, Mark, Edge, Leap}
use Rattle.symbolic_tiles.specs.declared.symbolic_op.SymbolicOperand.{SymbolicOperand}
use Rattle.symbolic_tiles.specs.declared.symbolic_op.SymbolicOperand.TheVariants.{Temporary, Location}
use Rattle.symbolic_tiles.specs.declared.symbolic_op.AccessSize.TheVariants.{Byte, Half, Word}
use Rattle.symbolic_tiles.specs.declared.symbolic_op.SymbolicOp.{SymbolicOp}
use Rattle.symbolic_tiles.specs.declared.symbolic_op.SymbolicOp.TheVariants.{Mov, MovImmediate, Put, PutImmediate, Alu, AluImmediate, Test, TestImmediate, Invert, Negate, Multiply, MultiplyWide, Divide, ShiftBy, ShiftCl, Widen, SwapBytes, MoveIf, Scan, Signs, FetchByte, PutByte, SetByte, Load as LoadOp, Store as StoreOp}
use Rattle.symbolic_tiles.specs.Prelude.{operand_of, wide_op, op_of, ops_of, most_bytes, room_of, record_ops}
use Rattle.base_alu.specs.Immediates.{base_ops, immediate_ops, logic_immediate_ops}
use Rattle.base_alu.specs.Shifts.{srawi_ops, rlwinm_ops, rlwnm_ops, rlwimi_ops}
use Rattle.base_alu.specs.Arithmetic.{arithmetic_ops, unary_ops}
use Rattle.base_alu.specs.Logic.{logic_ops, logic_unary_ops}
use Rattle.base_alu.specs.Conditions.{cr_ops, mtcrf_below, chosen_ops}
use Rattle.base_alu.specs.Specials.{mfxer_ops, mtxer_ops}
use Rattle.base_alu.specs.Tile.{symbolic_tile as alu_symbols}
use Rattle.base_mem.specs.Addresses.{immediate_address, indexed_address}
use Rattle.base_mem.specs.Loads.{put_ops, load_ops, load_update_ops, load_indexed_ops, load_indexed_update_ops}
use Rattle.base_mem.specs.Stores.{update_ops, store_ops, store_update_ops, store_indexed_ops, store_indexed_update_ops}
use Rattle.base_mem.specs.Multiple.{lmw_ops, stmw_ops}
use Rattle.base_mem.specs.Tile.{symbolic_tile as access_symbols}
use Rattle.offer_make.specs.Prices.{item_cost}

abbrev divides : SymbolicOp → ℕ
divides (Divide signed r) = 1
divides _ = 0

abbrev pub divides_of : List SymbolicOp → ℕ
divides_of [] = 0
divides_of (op ∷ ops) = divides op + divides_of ops

-- an op with an operand costs no more than with a home
by_operand : (m : Map) (source : SymbolicOperand) (f : Operand → Op) (n : ℕ) → ((r : ℕ) → cost_of (f (Reg r)) ≤ n) → ((d : ℕ) → cost_of (f (Abs d)) ≤ n) → cost_of (f (operand_of m source)) ≤ n
by_operand m (Temporary r) f n h k = h r
by_operand m (Location x) f n h k = by_slot (slot_of m x)
  where
    by_slot : (o : Option ℕ) → cost_of (f (place_in o x)) ≤ n
    by_slot (Some r) = h r
    by_slot None = k (4 * x)

op_cheap : (m : Map) (l : SymbolicOp) → cost_of (op_of m l) ≤ most_bytes l + 14 * divides l
op_cheap m (Mov r source) = by_operand m source (mov_from r) 6 (λ q. omega arith) (λ d. omega arith)
op_cheap m (MovImmediate r v) = omega arith
op_cheap m (Put x r) = by_operand m (Location x) (λ o. MovTo o r) 6 (λ q. omega arith) (λ d. omega arith)
op_cheap m (PutImmediate x v) = by_operand m (Location x) (λ o. MovToImm o v) 10 (λ q. omega arith) (λ d. omega arith)
op_cheap m (Alu op r source) = by_operand m source (alu_from op r) 6 (λ q. omega arith) (λ d. omega arith)
op_cheap m (AluImmediate op r v) = omega arith
op_cheap m (Test r q) = omega arith
op_cheap m (TestImmediate r v) = omega arith
op_cheap m (Invert r) = omega arith
op_cheap m (Negate r) = omega arith
op_cheap m (Multiply r source) = by_operand m source (Imul r) 7 (λ q. omega arith) (λ d. omega arith)
op_cheap m (MultiplyWide true source) = by_operand m source (Unary (wide_op true)) 6 (λ q. omega arith) (λ d. omega arith)
op_cheap m (MultiplyWide false source) = by_operand m source (Unary (wide_op false)) 6 (λ q. omega arith) (λ d. omega arith)
op_cheap m (Divide true r) = omega arith
op_cheap m (Divide false r) = omega arith
op_cheap m (ShiftBy op r n) = omega arith
op_cheap m (ShiftCl op r) = omega arith
op_cheap m (Widen op r q) = omega arith
op_cheap m (SwapBytes r) = omega arith
op_cheap m (MoveIf condition r q) = omega arith
op_cheap m (Scan r source) = by_operand m source (Bsr r) 7 (λ q. omega arith) (λ d. omega arith)
op_cheap m Signs = omega arith
op_cheap m (FetchByte r x) = omega arith
op_cheap m (PutByte x r) = omega arith
op_cheap m (SetByte condition x) = omega arith
op_cheap m (LoadOp Byte r b d) = omega arith
op_cheap m (LoadOp Half r b d) = omega arith
op_cheap m (LoadOp Word r b d) = omega arith
op_cheap m (StoreOp Byte b d r) = omega arith
op_cheap m (StoreOp Half b d r) = omega arith
op_cheap m (StoreOp Word b d r) = omega arith

ops_cheap : (m : Map) (ops : List SymbolicOp) → sum_by cost_of (ops_of ops m) ≤ room_of ops + 14 * divides_of ops
ops_cheap m [] = omega arith
ops_cheap m (l ∷ ops) =
    let a = op_cheap m l in let b = ops_cheap m ops in
    let s = sum_by-cons cost_of (op_of m l) (ops_of ops m) in omega (arith, a, b, s)

divides_append : (xs ys : List SymbolicOp) → divides_of (xs ++ ys) ≡ divides_of xs + divides_of ys
divides_append [] ys = omega arith
divides_append (x ∷ xs) ys = let e = divides_append xs ys in omega (arith, e)

by_base : (b : Bool) (d a v : ℕ) → divides_of (base_ops b d a v) ≡ 0
by_base true d a v = refl
by_base false d a v = refl

immediates : (op : ImmediateOp) (d a imm : ℕ) → divides_of (immediate_ops op d a imm) ≡ 0
immediates Addi d a imm = by_base (a == 0) d a _
immediates Addis d a imm = by_base (a == 0) d a _
immediates Addic d a imm = refl
immediates AddicRecord d a imm = refl
immediates Subfic d a imm = refl
immediates Mulli d a imm = refl

arithmetics : (op : ArithmeticOp) (d a b : ℕ) → divides_of (arithmetic_ops op d a b) ≤ 1
arithmetics arithmetic.Add d a b = omega arith
arithmetics arithmetic.Addc d a b = omega arith
arithmetics arithmetic.Adde d a b = omega arith
arithmetics arithmetic.Subf d a b = omega arith
arithmetics arithmetic.Subfc d a b = omega arith
arithmetics arithmetic.Subfe d a b = omega arith
arithmetics arithmetic.Mullw d a b = omega arith
arithmetics arithmetic.Mulhw d a b = omega arith
arithmetics arithmetic.Mulhwu d a b = omega arith
arithmetics arithmetic.Divw d a b = omega arith
arithmetics arithmetic.Divwu d a b = omega arith

unaries : (op : ArithmeticUnaryOp) (d a : ℕ) → divides_of (unary_ops op d a) ≡ 0
unaries unary.Addze d a = refl
unaries unary.Addme d a = refl
unaries unary.Subfze d a = refl
unaries unary.Subfme d a = refl
unaries unary.Neg d a = refl

logics : (op : LogicOp) (s a b : ℕ) → divides_of (logic_ops op s a b) ≡ 0
logics logic.And s a b = refl
logics logic.Or s a b = refl
logics logic.Xor s a b = refl
logics logic.Nand s a b = refl
logics logic.Nor s a b = refl
logics logic.Eqv s a b = refl
logics logic.Andc s a b = refl
logics logic.Orc s a b = refl
logics logic.Slw s a b = refl
logics logic.Srw s a b = refl
logics logic.Sraw s a b = refl

logic_unaries : (op : LogicUnaryOp) (s a : ℕ) → divides_of (logic_unary_ops op s a) ≡ 0
logic_unaries Cntlzw s a = refl
logic_unaries Extsb s a = refl
logic_unaries Extsh s a = refl

cr_logics : (op : CrLogicOp) (d a b : ℕ) → divides_of (cr_ops op d a b) ≡ 0
cr_logics Crand d a b = refl
cr_logics Cror d a b = refl
cr_logics Crxor d a b = refl
cr_logics Crnand d a b = refl
cr_logics Crnor d a b = refl
cr_logics Creqv d a b = refl
cr_logics Crandc d a b = refl
cr_logics Crorc d a b = refl

mtcrfs : (n s fxm : ℕ) → divides_of (mtcrf_below n s fxm) ≡ 0
unfolding mtcrf_below
mtcrfs zero s fxm = refl
mtcrfs (suc n) s fxm =
    let e = divides_append (if bit_of fxm n then chosen_ops s (7 - n) else []) (mtcrf_below n s fxm) in
    let h = mtcrfs n s fxm in let k = chosen (bit_of fxm n) in omega (arith, e, h, k)
  where
    chosen : (b : Bool) → divides_of (if b then chosen_ops s (7 - n) else []) ≡ 0
    chosen true = refl
    chosen false = refl

by_xer : (b : Bool) (xs ys : List SymbolicOp) → divides_of xs ≡ 0 → divides_of ys ≡ 0 → divides_of (if b then xs else ys) ≡ 0
by_xer true xs ys h k = h
by_xer false xs ys h k = k

recorded : (b : Bool) → divides_of (record_ops b) ≡ 0
recorded true = refl
recorded false = refl

recording : (ops : List SymbolicOp) (b : Bool) (n : ℕ) → divides_of ops ≤ n → divides_of (ops ++ record_ops b) ≤ n
recording ops b n h = let e = divides_append ops (record_ops b) in let k = recorded b in omega (arith, e, h, k)

pub alu_divides : (i : Instr) → divides_of (alu_symbols i) ≤ 1
alu_divides (Immediate op d a imm) = let h = immediates op d a imm in recording (immediate_ops op d a imm) (immediate_records op) 1 (omega (arith, h))
alu_divides (LogicImmediate op s a imm) = recording (logic_immediate_ops op s a imm) (logic_immediate_records op) 1 (omega arith)
alu_divides (Arithmetic op d a b records) = recording (arithmetic_ops op d a b) records 1 (arithmetics op d a b)
alu_divides (ArithmeticUnary op d a records) = let h = unaries op d a in recording (unary_ops op d a) records 1 (omega (arith, h))
alu_divides (Logic op s a b records) = let h = logics op s a b in recording (logic_ops op s a b) records 1 (omega (arith, h))
alu_divides (LogicUnary op s a records) = let h = logic_unaries op s a in recording (logic_unary_ops op s a) records 1 (omega (arith, h))
alu_divides (ShiftImmediate s a by records) = recording (srawi_ops s a by) records 1 (omega arith)
alu_divides (Rotate Rlwinm s a by mask_begin mask_end records) = recording (rlwinm_ops s a by (mask mask_begin mask_end)) records 1 (omega arith)
alu_divides (Rotate Rlwnm s a by mask_begin mask_end records) = recording (rlwnm_ops s a by (mask mask_begin mask_end)) records 1 (omega arith)
alu_divides (Rotate Rlwimi s a by mask_begin mask_end records) = recording (rlwimi_ops s a by (mask mask_begin mask_end)) records 1 (omega arith)
alu_divides (CompareImmediate Cmpi field a imm) = omega arith
alu_divides (CompareImmediate Cmpli field a imm) = omega arith
alu_divides (Compare registers.Cmp field a b) = omega arith
alu_divides (Compare registers.Cmpl field a b) = omega arith
alu_divides (CrLogic op d a b) = let h = cr_logics op d a b in omega (arith, h)
alu_divides (MoveCrField to from) = omega arith
alu_divides (MoveFromCr d) = omega arith
alu_divides (MoveToCr s fxm) = let h = mtcrfs 8 s fxm in omega (arith, h)
alu_divides (MoveFromSpr d spr) = let h = by_xer (spr == 1) (mfxer_ops d) (Mov 0 (Location (24 + spr)) ∷ Put d 0 ∷ []) refl refl in omega (arith, h)
alu_divides (MoveToSpr s spr) = let h = by_xer (spr == 1) (mtxer_ops s) (Mov 0 (Location s) ∷ Put (24 + spr) 0 ∷ []) refl refl in omega (arith, h)
alu_divides _ = omega arith

by_zero_immediate : (b : Bool) (a imm : ℕ) → divides_of (immediate_address b a imm) ≡ 0
by_zero_immediate true a imm = refl
by_zero_immediate false a imm = refl

by_zero_indexed : (z : Bool) (a b : ℕ) → divides_of (indexed_address z a b) ≡ 0
by_zero_indexed true a b = refl
by_zero_indexed false a b = refl

lmws : (n d : ℕ) → divides_of (lmw_ops n d) ≡ 0
unfolding lmw_ops
lmws zero d = refl
lmws (suc n) d = let h = lmws n d in omega (arith, h)

stmws : (n s : ℕ) → divides_of (stmw_ops n s) ≡ 0
unfolding stmw_ops
stmws zero s = refl
stmws (suc n) s = let h = stmws n s in omega (arith, h)

three : (xs ys zs : List SymbolicOp) → divides_of xs ≡ 0 → divides_of ys ≡ 0 → divides_of zs ≡ 0 → divides_of (xs ++ (ys ++ zs)) ≡ 0
three xs ys zs x y z = let e = divides_append xs (ys ++ zs) in let f = divides_append ys zs in omega (arith, e, f, x, y, z)

two : (xs ys : List SymbolicOp) → divides_of xs ≡ 0 → divides_of ys ≡ 0 → divides_of (xs ++ ys) ≡ 0
two xs ys x y = let e = divides_append xs ys in omega (arith, e, x, y)

loads : (op : LoadForm) → divides_of (load_ops op) ≡ 0
loads load.Lwz = refl
loads load.Lbz = refl
loads load.Lhz = refl
loads load.Lha = refl

load_updates : (op : LoadUpdateOp) → divides_of (load_update_ops op) ≡ 0
load_updates load_update.Lwzu = refl
load_updates load_update.Lbzu = refl
load_updates load_update.Lhzu = refl
load_updates load_update.Lhau = refl

load_indexeds : (op : LoadIndexedOp) → divides_of (load_indexed_ops op) ≡ 0
load_indexeds load_indexed.Lwzx = refl
load_indexeds load_indexed.Lbzx = refl
load_indexeds load_indexed.Lhzx = refl
load_indexeds load_indexed.Lhax = refl
load_indexeds load_indexed.Lwbrx = refl
load_indexeds load_indexed.Lhbrx = refl

load_indexed_updates : (op : LoadIndexedUpdateOp) → divides_of (load_indexed_update_ops op) ≡ 0
load_indexed_updates load_indexed_update.Lwzux = refl
load_indexed_updates load_indexed_update.Lbzux = refl
load_indexed_updates load_indexed_update.Lhzux = refl
load_indexed_updates load_indexed_update.Lhaux = refl

stores : (op : StoreForm) (s : ℕ) → divides_of (store_ops op s) ≡ 0
stores store.Stw s = refl
stores store.Stb s = refl
stores store.Sth s = refl

store_updates : (op : StoreUpdateOp) (s : ℕ) → divides_of (store_update_ops op s) ≡ 0
store_updates store_update.Stwu s = refl
store_updates store_update.Stbu s = refl
store_updates store_update.Sthu s = refl

store_indexeds : (op : StoreIndexedOp) (s : ℕ) → divides_of (store_indexed_ops op s) ≡ 0
store_indexeds store_indexed.Stwx s = refl
store_indexeds store_indexed.Stbx s = refl
store_indexeds store_indexed.Sthx s = refl
store_indexeds store_indexed.Stwbrx s = refl
store_indexeds store_indexed.Sthbrx s = refl

store_indexed_updates : (op : StoreIndexedUpdateOp) (s : ℕ) → divides_of (store_indexed_update_ops op s) ≡ 0
store_indexed_updates store_indexed_update.Stwux s = refl
store_indexed_updates store_indexed_update.Stbux s = refl
store_indexed_updates store_indexed_update.Sthux s = refl

pub access_divides : (i : Instr) → divides_of (access_symbols i) ≡ 0
access_divides (Load op d a imm) = three (immediate_address (a == 0) a imm) (load_ops op) (put_ops false d a) (by_zero_immediate (a == 0) a imm) (loads op) refl
access_divides (LoadUpdate op d a imm) = three (immediate_address false a imm) (load_update_ops op) (put_ops true d a) refl (load_updates op) refl
access_divides (LoadIndexed op d a b) = three (indexed_address (a == 0) a b) (load_indexed_ops op) (put_ops false d a) (by_zero_indexed (a == 0) a b) (load_indexeds op) refl
access_divides (LoadIndexedUpdate op d a b) = three (indexed_address false a b) (load_indexed_update_ops op) (put_ops true d a) refl (load_indexed_updates op) refl
access_divides (Store op s a imm) = three (immediate_address (a == 0) a imm) (store_ops op s) (update_ops false a) (by_zero_immediate (a == 0) a imm) (stores op s) refl
access_divides (StoreUpdate op s a imm) = three (immediate_address false a imm) (store_update_ops op s) (update_ops true a) refl (store_updates op s) refl
access_divides (StoreIndexed op s a b) = three (indexed_address (a == 0) a b) (store_indexed_ops op s) (update_ops false a) (by_zero_indexed (a == 0) a b) (store_indexeds op s) refl
access_divides (StoreIndexedUpdate op s a b) = three (indexed_address false a b) (store_indexed_update_ops op s) (update_ops true a) refl (store_indexed_updates op s) refl
access_divides (Multiple Lmw d a imm) = two (immediate_address (a == 0) a imm) (lmw_ops (32 - d) d) (by_zero_immediate (a == 0) a imm) (lmws (32 - d) d)
access_divides (Multiple Stmw s a imm) = two (immediate_address (a == 0) a imm) (stmw_ops (32 - s) s) (by_zero_immediate (a == 0) a imm) (stmws (32 - s) s)
access_divides _ = refl

-- the tiles
pub alu_low : (i : Instr) (m : Map) → room_of (alu_symbols i) ≤ 595 → sum_by cost_of (ops_of (alu_symbols i) m) < 1024
alu_low i m short = let c = ops_cheap m (alu_symbols i) in let d = alu_divides i in omega (arith, c, d, short)

pub access_low : (i : Instr) (m : Map) → room_of (access_symbols i) ≤ 595 → sum_by cost_of (ops_of (access_symbols i) m) < 1024
access_low i m short = let c = ops_cheap m (access_symbols i) in let d = access_divides i in omega (arith, c, d, short)

in_one : (o : Operand) → in_memory o ≤ 1
in_one (Reg r) = omega arith
in_one (Abs d) = omega arith
in_one (Base b d) = omega arith
in_one (Pair b x s d) = omega arith

memory_one : (op : Op) → memory_operands op ≤ 1
memory_one (AluTo op to from) = in_one to
memory_one (AluFrom op to from) = in_one from
memory_one (AluImm op to imm) = in_one to
memory_one (TestReg a b) = in_one a
memory_one (TestImm a imm) = in_one a
memory_one (Unary op on) = in_one on
memory_one (Imul to from) = in_one from
memory_one (MovTo to from) = in_one to
memory_one (MovFrom to from) = in_one from
memory_one (MovToImm to imm) = in_one to
memory_one (MovHalfTo to from) = in_one to
memory_one (MovByteTo to from) = in_one to
memory_one (MovByteFrom to from) = in_one from
memory_one (Shift op to by) = in_one to
memory_one (ShiftByCl op to) = in_one to
memory_one (Extend op to from) = in_one from
memory_one (Set condition to) = in_one to
memory_one (Cmov condition to from) = in_one from
memory_one (Bsr to from) = in_one from
memory_one (JmpTo to) = in_one to
memory_one _ = omega arith

work_small : (op : Op) → work op ≤ 19
work_small (Unary Not on) = omega arith
work_small (Unary Neg on) = omega arith
work_small (Unary Mul on) = omega arith
work_small (Unary Imul1 on) = omega arith
work_small (Unary Div on) = omega arith
work_small (Unary Idiv on) = omega arith
work_small (Imul to from) = omega arith
work_small _ = omega arith

pub cost_small : (op : Op) → cost_of op ≤ 22
cost_small op = let a = memory_one op in let b = work_small op in omega (arith, a, b)

item_small : (item : FlowOp) → item_cost item ≤ 22
item_small (Plain op) = cost_small op
item_small (Jump condition mark) = omega arith
item_small (Mark mark) = omega arith
item_small (Edge target) = omega arith
item_small Leap = omega arith

pub items_low : (items : List FlowOp) → sum_by item_cost items ≤ 22 * length items
items_low [] = omega arith
items_low (item ∷ items) =
    let a = item_small item in let b = items_low items in
    let s = sum_by-cons item_cost item items in omega (arith, a, b, s)
