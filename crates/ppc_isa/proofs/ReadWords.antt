-- A word that spells an instruction is read as it.
use Rattle.std.proofs.Common.{◌≡◌, ℕ, ◌/◌, ◌%◌, Bool, true, false, Option, Some, None, refl, sym, subst, ◌∙◌, ap, arith}
use Rattle.ppc_isa.specs.Word.{word, Fit}
use Rattle.ppc_isa.specs.Legal.{bit, layout, IsWordOf, immediate_opcode, logic_immediate_opcode, load_opcode, store_opcode, load_update_opcode, store_update_opcode, multiple_opcode, compare_immediate_opcode, rotate_opcode, arithmetic_opcode, arithmetic_unary_opcode, logic_opcode, logic_unary_opcode, compare_opcode, load_indexed_opcode, store_indexed_opcode, load_indexed_update_opcode, store_indexed_update_opcode, cr_logic_opcode, branch_register_opcode}
use Rattle.ppc_isa.specs.Reading.{cut, is_one, read, read_31, read_19}
use Rattle.ppc_isa.specs.Instruction.{Instr, Immediate, LogicImmediate, Load, Store, LoadUpdate, StoreUpdate, Multiple, TrapImmediate, CompareImmediate, Rotate, Branch, BranchConditional, SystemCall, Arithmetic, ArithmeticUnary, Logic, ShiftImmediate, LogicUnary, Compare, Trap, MoveFromCr, MoveToCr, MoveFromSpr, MoveToSpr, Sync, LoadIndexed, StoreIndexed, LoadIndexedUpdate, StoreIndexedUpdate, MoveCrField, CrLogic, Isync, BranchRegister, ImmediateOp, Addi, Addis, Addic, AddicRecord, Subfic, Mulli, LogicImmediateOp, Ori, Oris, Xori, Xoris, Andi, Andis, LoadOp, Lwz, Lbz, Lhz, Lha, StoreOp, Stw, Stb, Sth, LoadUpdateOp, Lwzu, Lbzu, Lhzu, Lhau, StoreUpdateOp, Stwu, Stbu, Sthu, MultipleOp, Lmw, Stmw, CompareImmediateOp, Cmpi, Cmpli, RotateOp, Rlwinm, Rlwnm, Rlwimi, ArithmeticOp, Add, Addc, Adde, Subf, Subfc, Subfe, Mullw, Mulhw, Mulhwu, Divw, Divwu, ArithmeticUnaryOp, Addze, Addme, Subfze, Subfme, Neg, LogicOp, And, Or, Xor, Nand, Nor, Eqv, Andc, Orc, Slw, Srw, Sraw, LogicUnaryOp, Cntlzw, Extsb, Extsh, CompareOp, Cmp, Cmpl, LoadIndexedOp, Lwzx, Lbzx, Lhzx, Lhax, Lwbrx, Lhbrx, StoreIndexedOp, Stwx, Stbx, Sthx, Stwbrx, Sthbrx, LoadIndexedUpdateOp, Lwzux, Lbzux, Lhzux, Lhaux, StoreIndexedUpdateOp, Stwux, Stbux, Sthux, CrLogicOp, Crand, Cror, Crxor, Crnand, Crnor, Creqv, Crandc, Crorc, BranchRegisterOp, Bclr, Bcctr}

abbrev some : Instr → Option Instr
some i = Some i

abbrev none : Option Instr
none = None

some_is : (i j : Instr) → some i ≡ some j → i ≡ j
some_is i j e = cc

not_some : (i : Instr) → none ≡ some i → ⊥
not_some i e = absurd cc

is_one-bit : (b : Bool) → is_one (bit b) ≡ b
is_one-bit true = refl
is_one-bit false = refl

named_immediate : (op : ImmediateOp) (w : ℕ) → cut w 26 6 ≡ immediate_opcode op → read w ≡ Some (Immediate op (cut w 21 5) (cut w 16 5) (cut w 0 16))
unfolding read
named_immediate Addi w e = rw e refl
named_immediate Addis w e = rw e refl
named_immediate Addic w e = rw e refl
named_immediate AddicRecord w e = rw e refl
named_immediate Subfic w e = rw e refl
named_immediate Mulli w e = rw e refl

read_immediate : (w : ℕ) (op : ImmediateOp) (d : ℕ) (a : ℕ) (imm : ℕ) → w ≡ word (layout (Immediate op d a imm)) → Fit (layout (Immediate op d a imm)) → read w ≡ Some (Immediate op d a imm)
unfolding read
read_immediate w op d a imm e f =
    let p0 : cut w 26 6 ≡ immediate_opcode op = omega (arith, e, f) in
    let p1 : cut w 21 5 ≡ d = omega (arith, e, f) in
    let p2 : cut w 16 5 ≡ a = omega (arith, e, f) in
    let p3 : cut w 0 16 ≡ imm = omega (arith, e, f) in
    rw (named_immediate op w p0, p1, p2, p3) refl

named_logic_immediate : (op : LogicImmediateOp) (w : ℕ) → cut w 26 6 ≡ logic_immediate_opcode op → read w ≡ Some (LogicImmediate op (cut w 21 5) (cut w 16 5) (cut w 0 16))
unfolding read
named_logic_immediate Ori w e = rw e refl
named_logic_immediate Oris w e = rw e refl
named_logic_immediate Xori w e = rw e refl
named_logic_immediate Xoris w e = rw e refl
named_logic_immediate Andi w e = rw e refl
named_logic_immediate Andis w e = rw e refl

read_logic_immediate : (w : ℕ) (op : LogicImmediateOp) (s : ℕ) (a : ℕ) (imm : ℕ) → w ≡ word (layout (LogicImmediate op s a imm)) → Fit (layout (LogicImmediate op s a imm)) → read w ≡ Some (LogicImmediate op s a imm)
unfolding read
read_logic_immediate w op s a imm e f =
    let p0 : cut w 26 6 ≡ logic_immediate_opcode op = omega (arith, e, f) in
    let p1 : cut w 21 5 ≡ s = omega (arith, e, f) in
    let p2 : cut w 16 5 ≡ a = omega (arith, e, f) in
    let p3 : cut w 0 16 ≡ imm = omega (arith, e, f) in
    rw (named_logic_immediate op w p0, p1, p2, p3) refl

named_load : (op : LoadOp) (w : ℕ) → cut w 26 6 ≡ load_opcode op → read w ≡ Some (Load op (cut w 21 5) (cut w 16 5) (cut w 0 16))
unfolding read
named_load Lwz w e = rw e refl
named_load Lbz w e = rw e refl
named_load Lhz w e = rw e refl
named_load Lha w e = rw e refl

read_load : (w : ℕ) (op : LoadOp) (d : ℕ) (a : ℕ) (imm : ℕ) → w ≡ word (layout (Load op d a imm)) → Fit (layout (Load op d a imm)) → read w ≡ Some (Load op d a imm)
unfolding read
read_load w op d a imm e f =
    let p0 : cut w 26 6 ≡ load_opcode op = omega (arith, e, f) in
    let p1 : cut w 21 5 ≡ d = omega (arith, e, f) in
    let p2 : cut w 16 5 ≡ a = omega (arith, e, f) in
    let p3 : cut w 0 16 ≡ imm = omega (arith, e, f) in
    rw (named_load op w p0, p1, p2, p3) refl

named_store : (op : StoreOp) (w : ℕ) → cut w 26 6 ≡ store_opcode op → read w ≡ Some (Store op (cut w 21 5) (cut w 16 5) (cut w 0 16))
unfolding read
named_store Stw w e = rw e refl
named_store Stb w e = rw e refl
named_store Sth w e = rw e refl

read_store : (w : ℕ) (op : StoreOp) (s : ℕ) (a : ℕ) (imm : ℕ) → w ≡ word (layout (Store op s a imm)) → Fit (layout (Store op s a imm)) → read w ≡ Some (Store op s a imm)
unfolding read
read_store w op s a imm e f =
    let p0 : cut w 26 6 ≡ store_opcode op = omega (arith, e, f) in
    let p1 : cut w 21 5 ≡ s = omega (arith, e, f) in
    let p2 : cut w 16 5 ≡ a = omega (arith, e, f) in
    let p3 : cut w 0 16 ≡ imm = omega (arith, e, f) in
    rw (named_store op w p0, p1, p2, p3) refl

named_load_update : (op : LoadUpdateOp) (w : ℕ) → cut w 26 6 ≡ load_update_opcode op → read w ≡ Some (LoadUpdate op (cut w 21 5) (cut w 16 5) (cut w 0 16))
unfolding read
named_load_update Lwzu w e = rw e refl
named_load_update Lbzu w e = rw e refl
named_load_update Lhzu w e = rw e refl
named_load_update Lhau w e = rw e refl

read_load_update : (w : ℕ) (op : LoadUpdateOp) (d : ℕ) (a : ℕ) (imm : ℕ) → w ≡ word (layout (LoadUpdate op d a imm)) → Fit (layout (LoadUpdate op d a imm)) → read w ≡ Some (LoadUpdate op d a imm)
unfolding read
read_load_update w op d a imm e f =
    let p0 : cut w 26 6 ≡ load_update_opcode op = omega (arith, e, f) in
    let p1 : cut w 21 5 ≡ d = omega (arith, e, f) in
    let p2 : cut w 16 5 ≡ a = omega (arith, e, f) in
    let p3 : cut w 0 16 ≡ imm = omega (arith, e, f) in
    rw (named_load_update op w p0, p1, p2, p3) refl

named_store_update : (op : StoreUpdateOp) (w : ℕ) → cut w 26 6 ≡ store_update_opcode op → read w ≡ Some (StoreUpdate op (cut w 21 5) (cut w 16 5) (cut w 0 16))
unfolding read
named_store_update Stwu w e = rw e refl
named_store_update Stbu w e = rw e refl
named_store_update Sthu w e = rw e refl

read_store_update : (w : ℕ) (op : StoreUpdateOp) (s : ℕ) (a : ℕ) (imm : ℕ) → w ≡ word (layout (StoreUpdate op s a imm)) → Fit (layout (StoreUpdate op s a imm)) → read w ≡ Some (StoreUpdate op s a imm)
unfolding read
read_store_update w op s a imm e f =
    let p0 : cut w 26 6 ≡ store_update_opcode op = omega (arith, e, f) in
    let p1 : cut w 21 5 ≡ s = omega (arith, e, f) in
    let p2 : cut w 16 5 ≡ a = omega (arith, e, f) in
    let p3 : cut w 0 16 ≡ imm = omega (arith, e, f) in
    rw (named_store_update op w p0, p1, p2, p3) refl

named_multiple : (op : MultipleOp) (w : ℕ) → cut w 26 6 ≡ multiple_opcode op → read w ≡ Some (Multiple op (cut w 21 5) (cut w 16 5) (cut w 0 16))
unfolding read
named_multiple Lmw w e = rw e refl
named_multiple Stmw w e = rw e refl

read_multiple : (w : ℕ) (op : MultipleOp) (d : ℕ) (a : ℕ) (imm : ℕ) → w ≡ word (layout (Multiple op d a imm)) → Fit (layout (Multiple op d a imm)) → read w ≡ Some (Multiple op d a imm)
unfolding read
read_multiple w op d a imm e f =
    let p0 : cut w 26 6 ≡ multiple_opcode op = omega (arith, e, f) in
    let p1 : cut w 21 5 ≡ d = omega (arith, e, f) in
    let p2 : cut w 16 5 ≡ a = omega (arith, e, f) in
    let p3 : cut w 0 16 ≡ imm = omega (arith, e, f) in
    rw (named_multiple op w p0, p1, p2, p3) refl

read_trap_immediate : (w : ℕ) (to : ℕ) (a : ℕ) (imm : ℕ) → w ≡ word (layout (TrapImmediate to a imm)) → Fit (layout (TrapImmediate to a imm)) → read w ≡ Some (TrapImmediate to a imm)
unfolding read
read_trap_immediate w to a imm e f =
    let p0 : cut w 26 6 ≡ 3 = omega (arith, e, f) in
    let p1 : cut w 21 5 ≡ to = omega (arith, e, f) in
    let p2 : cut w 16 5 ≡ a = omega (arith, e, f) in
    let p3 : cut w 0 16 ≡ imm = omega (arith, e, f) in
    rw (p0, p1, p2, p3) refl

named_compare_immediate : (op : CompareImmediateOp) (w : ℕ) → cut w 26 6 ≡ compare_immediate_opcode op → read w ≡ Some (CompareImmediate op (cut w 23 3) (cut w 16 5) (cut w 0 16))
unfolding read
named_compare_immediate Cmpi w e = rw e refl
named_compare_immediate Cmpli w e = rw e refl

read_compare_immediate : (w : ℕ) (op : CompareImmediateOp) (field : ℕ) (a : ℕ) (imm : ℕ) → w ≡ word (layout (CompareImmediate op field a imm)) → Fit (layout (CompareImmediate op field a imm)) → read w ≡ Some (CompareImmediate op field a imm)
unfolding read
read_compare_immediate w op field a imm e f =
    let p0 : cut w 26 6 ≡ compare_immediate_opcode op = omega (arith, e, f) in
    let p1 : cut w 23 3 ≡ field = omega (arith, e, f) in
    let p3 : cut w 16 5 ≡ a = omega (arith, e, f) in
    let p4 : cut w 0 16 ≡ imm = omega (arith, e, f) in
    rw (named_compare_immediate op w p0, p1, p3, p4) refl

named_rotate : (op : RotateOp) (w : ℕ) → cut w 26 6 ≡ rotate_opcode op → read w ≡ Some (Rotate op (cut w 21 5) (cut w 16 5) (cut w 11 5) (cut w 6 5) (cut w 1 5) (is_one (cut w 0 1)))
unfolding read
named_rotate Rlwinm w e = rw e refl
named_rotate Rlwnm w e = rw e refl
named_rotate Rlwimi w e = rw e refl

read_rotate : (w : ℕ) (op : RotateOp) (s : ℕ) (a : ℕ) (by : ℕ) (mask_begin : ℕ) (mask_end : ℕ) (records : Bool) → w ≡ word (layout (Rotate op s a by mask_begin mask_end records)) → Fit (layout (Rotate op s a by mask_begin mask_end records)) → read w ≡ Some (Rotate op s a by mask_begin mask_end records)
unfolding read
read_rotate w op s a by mask_begin mask_end records e f =
    let p0 : cut w 26 6 ≡ rotate_opcode op = omega (arith, e, f) in
    let p1 : cut w 21 5 ≡ s = omega (arith, e, f) in
    let p2 : cut w 16 5 ≡ a = omega (arith, e, f) in
    let p3 : cut w 11 5 ≡ by = omega (arith, e, f) in
    let p4 : cut w 6 5 ≡ mask_begin = omega (arith, e, f) in
    let p5 : cut w 1 5 ≡ mask_end = omega (arith, e, f) in
    let p6 : cut w 0 1 ≡ bit records = omega (arith, e, f) in
    rw (named_rotate op w p0, p1, p2, p3, p4, p5, p6, is_one-bit records) refl

read_branch : (w : ℕ) (target : ℕ) (absolute : Bool) (link : Bool) → w ≡ word (layout (Branch target absolute link)) → Fit (layout (Branch target absolute link)) → read w ≡ Some (Branch target absolute link)
unfolding read
read_branch w target absolute link e f =
    let p0 : cut w 26 6 ≡ 18 = omega (arith, e, f) in
    let p1 : cut w 2 24 ≡ target = omega (arith, e, f) in
    let p2 : cut w 1 1 ≡ bit absolute = omega (arith, e, f) in
    let p3 : cut w 0 1 ≡ bit link = omega (arith, e, f) in
    rw (p0, p1, p2, is_one-bit absolute, p3, is_one-bit link) refl

read_branch_conditional : (w : ℕ) (bo : ℕ) (bi : ℕ) (target : ℕ) (absolute : Bool) (link : Bool) → w ≡ word (layout (BranchConditional bo bi target absolute link)) → Fit (layout (BranchConditional bo bi target absolute link)) → read w ≡ Some (BranchConditional bo bi target absolute link)
unfolding read
read_branch_conditional w bo bi target absolute link e f =
    let p0 : cut w 26 6 ≡ 16 = omega (arith, e, f) in
    let p1 : cut w 21 5 ≡ bo = omega (arith, e, f) in
    let p2 : cut w 16 5 ≡ bi = omega (arith, e, f) in
    let p3 : cut w 2 14 ≡ target = omega (arith, e, f) in
    let p4 : cut w 1 1 ≡ bit absolute = omega (arith, e, f) in
    let p5 : cut w 0 1 ≡ bit link = omega (arith, e, f) in
    rw (p0, p1, p2, p3, p4, is_one-bit absolute, p5, is_one-bit link) refl

read_system_call : (w : ℕ) → w ≡ word (layout SystemCall) → Fit (layout SystemCall) → read w ≡ Some SystemCall
unfolding read
read_system_call w e f =
    let p0 : cut w 26 6 ≡ 17 = omega (arith, e, f) in
    rw p0 refl

named_arithmetic : (op : ArithmeticOp) (w : ℕ) → cut w 1 10 ≡ arithmetic_opcode op → read_31 w ≡ Some (Arithmetic op (cut w 21 5) (cut w 16 5) (cut w 11 5) (is_one (cut w 0 1)))
unfolding read_31
named_arithmetic Add w e = rw e refl
named_arithmetic Addc w e = rw e refl
named_arithmetic Adde w e = rw e refl
named_arithmetic Subf w e = rw e refl
named_arithmetic Subfc w e = rw e refl
named_arithmetic Subfe w e = rw e refl
named_arithmetic Mullw w e = rw e refl
named_arithmetic Mulhw w e = rw e refl
named_arithmetic Mulhwu w e = rw e refl
named_arithmetic Divw w e = rw e refl
named_arithmetic Divwu w e = rw e refl

read_arithmetic : (w : ℕ) (op : ArithmeticOp) (d : ℕ) (a : ℕ) (b : ℕ) (records : Bool) → w ≡ word (layout (Arithmetic op d a b records)) → Fit (layout (Arithmetic op d a b records)) → read w ≡ Some (Arithmetic op d a b records)
unfolding read
read_arithmetic w op d a b records e f =
    let p0 : cut w 26 6 ≡ 31 = omega (arith, e, f) in
    let p1 : cut w 21 5 ≡ d = omega (arith, e, f) in
    let p2 : cut w 16 5 ≡ a = omega (arith, e, f) in
    let p3 : cut w 11 5 ≡ b = omega (arith, e, f) in
    let p4 : cut w 1 10 ≡ arithmetic_opcode op = omega (arith, e, f) in
    let p5 : cut w 0 1 ≡ bit records = omega (arith, e, f) in
    rw (p0, named_arithmetic op w p4, p1, p2, p3, p5, is_one-bit records) refl

named_arithmetic_unary : (op : ArithmeticUnaryOp) (w : ℕ) → cut w 1 10 ≡ arithmetic_unary_opcode op → read_31 w ≡ Some (ArithmeticUnary op (cut w 21 5) (cut w 16 5) (is_one (cut w 0 1)))
unfolding read_31
named_arithmetic_unary Addze w e = rw e refl
named_arithmetic_unary Addme w e = rw e refl
named_arithmetic_unary Subfze w e = rw e refl
named_arithmetic_unary Subfme w e = rw e refl
named_arithmetic_unary Neg w e = rw e refl

read_arithmetic_unary : (w : ℕ) (op : ArithmeticUnaryOp) (d : ℕ) (a : ℕ) (records : Bool) → w ≡ word (layout (ArithmeticUnary op d a records)) → Fit (layout (ArithmeticUnary op d a records)) → read w ≡ Some (ArithmeticUnary op d a records)
unfolding read
read_arithmetic_unary w op d a records e f =
    let p0 : cut w 26 6 ≡ 31 = omega (arith, e, f) in
    let p1 : cut w 21 5 ≡ d = omega (arith, e, f) in
    let p2 : cut w 16 5 ≡ a = omega (arith, e, f) in
    let p4 : cut w 1 10 ≡ arithmetic_unary_opcode op = omega (arith, e, f) in
    let p5 : cut w 0 1 ≡ bit records = omega (arith, e, f) in
    rw (p0, named_arithmetic_unary op w p4, p1, p2, p5, is_one-bit records) refl

named_logic : (op : LogicOp) (w : ℕ) → cut w 1 10 ≡ logic_opcode op → read_31 w ≡ Some (Logic op (cut w 21 5) (cut w 16 5) (cut w 11 5) (is_one (cut w 0 1)))
unfolding read_31
named_logic And w e = rw e refl
named_logic Or w e = rw e refl
named_logic Xor w e = rw e refl
named_logic Nand w e = rw e refl
named_logic Nor w e = rw e refl
named_logic Eqv w e = rw e refl
named_logic Andc w e = rw e refl
named_logic Orc w e = rw e refl
named_logic Slw w e = rw e refl
named_logic Srw w e = rw e refl
named_logic Sraw w e = rw e refl

read_logic : (w : ℕ) (op : LogicOp) (s : ℕ) (a : ℕ) (b : ℕ) (records : Bool) → w ≡ word (layout (Logic op s a b records)) → Fit (layout (Logic op s a b records)) → read w ≡ Some (Logic op s a b records)
unfolding read
read_logic w op s a b records e f =
    let p0 : cut w 26 6 ≡ 31 = omega (arith, e, f) in
    let p1 : cut w 21 5 ≡ s = omega (arith, e, f) in
    let p2 : cut w 16 5 ≡ a = omega (arith, e, f) in
    let p3 : cut w 11 5 ≡ b = omega (arith, e, f) in
    let p4 : cut w 1 10 ≡ logic_opcode op = omega (arith, e, f) in
    let p5 : cut w 0 1 ≡ bit records = omega (arith, e, f) in
    rw (p0, named_logic op w p4, p1, p2, p3, p5, is_one-bit records) refl

read_shift_immediate : (w : ℕ) (s : ℕ) (a : ℕ) (by : ℕ) (records : Bool) → w ≡ word (layout (ShiftImmediate s a by records)) → Fit (layout (ShiftImmediate s a by records)) → read w ≡ Some (ShiftImmediate s a by records)
unfolding read read_31
read_shift_immediate w s a by records e f =
    let p0 : cut w 26 6 ≡ 31 = omega (arith, e, f) in
    let p1 : cut w 21 5 ≡ s = omega (arith, e, f) in
    let p2 : cut w 16 5 ≡ a = omega (arith, e, f) in
    let p3 : cut w 11 5 ≡ by = omega (arith, e, f) in
    let p4 : cut w 1 10 ≡ 824 = omega (arith, e, f) in
    let p5 : cut w 0 1 ≡ bit records = omega (arith, e, f) in
    rw (p0, p4, p1, p2, p3, p5, is_one-bit records) refl

named_logic_unary : (op : LogicUnaryOp) (w : ℕ) → cut w 1 10 ≡ logic_unary_opcode op → read_31 w ≡ Some (LogicUnary op (cut w 21 5) (cut w 16 5) (is_one (cut w 0 1)))
unfolding read_31
named_logic_unary Cntlzw w e = rw e refl
named_logic_unary Extsb w e = rw e refl
named_logic_unary Extsh w e = rw e refl

read_logic_unary : (w : ℕ) (op : LogicUnaryOp) (s : ℕ) (a : ℕ) (records : Bool) → w ≡ word (layout (LogicUnary op s a records)) → Fit (layout (LogicUnary op s a records)) → read w ≡ Some (LogicUnary op s a records)
unfolding read
read_logic_unary w op s a records e f =
    let p0 : cut w 26 6 ≡ 31 = omega (arith, e, f) in
    let p1 : cut w 21 5 ≡ s = omega (arith, e, f) in
    let p2 : cut w 16 5 ≡ a = omega (arith, e, f) in
    let p4 : cut w 1 10 ≡ logic_unary_opcode op = omega (arith, e, f) in
    let p5 : cut w 0 1 ≡ bit records = omega (arith, e, f) in
    rw (p0, named_logic_unary op w p4, p1, p2, p5, is_one-bit records) refl

named_compare : (op : CompareOp) (w : ℕ) → cut w 1 10 ≡ compare_opcode op → read_31 w ≡ Some (Compare op (cut w 23 3) (cut w 16 5) (cut w 11 5))
unfolding read_31
named_compare Cmp w e = rw e refl
named_compare Cmpl w e = rw e refl

read_compare : (w : ℕ) (op : CompareOp) (field : ℕ) (a : ℕ) (b : ℕ) → w ≡ word (layout (Compare op field a b)) → Fit (layout (Compare op field a b)) → read w ≡ Some (Compare op field a b)
unfolding read
read_compare w op field a b e f =
    let p0 : cut w 26 6 ≡ 31 = omega (arith, e, f) in
    let p1 : cut w 23 3 ≡ field = omega (arith, e, f) in
    let p3 : cut w 16 5 ≡ a = omega (arith, e, f) in
    let p4 : cut w 11 5 ≡ b = omega (arith, e, f) in
    let p5 : cut w 1 10 ≡ compare_opcode op = omega (arith, e, f) in
    rw (p0, named_compare op w p5, p1, p3, p4) refl

read_trap : (w : ℕ) (to : ℕ) (a : ℕ) (b : ℕ) → w ≡ word (layout (Trap to a b)) → Fit (layout (Trap to a b)) → read w ≡ Some (Trap to a b)
unfolding read read_31
read_trap w to a b e f =
    let p0 : cut w 26 6 ≡ 31 = omega (arith, e, f) in
    let p1 : cut w 21 5 ≡ to = omega (arith, e, f) in
    let p2 : cut w 16 5 ≡ a = omega (arith, e, f) in
    let p3 : cut w 11 5 ≡ b = omega (arith, e, f) in
    let p4 : cut w 1 10 ≡ 4 = omega (arith, e, f) in
    rw (p0, p4, p1, p2, p3) refl

read_move_from_cr : (w : ℕ) (d : ℕ) → w ≡ word (layout (MoveFromCr d)) → Fit (layout (MoveFromCr d)) → read w ≡ Some (MoveFromCr d)
unfolding read read_31
read_move_from_cr w d e f =
    let p0 : cut w 26 6 ≡ 31 = omega (arith, e, f) in
    let p1 : cut w 21 5 ≡ d = omega (arith, e, f) in
    let p4 : cut w 1 10 ≡ 19 = omega (arith, e, f) in
    rw (p0, p4, p1) refl

read_move_to_cr : (w : ℕ) (s : ℕ) (mask : ℕ) → w ≡ word (layout (MoveToCr s mask)) → Fit (layout (MoveToCr s mask)) → read w ≡ Some (MoveToCr s mask)
unfolding read read_31
read_move_to_cr w s mask e f =
    let p0 : cut w 26 6 ≡ 31 = omega (arith, e, f) in
    let p1 : cut w 21 5 ≡ s = omega (arith, e, f) in
    let p3 : cut w 12 8 ≡ mask = omega (arith, e, f) in
    let p5 : cut w 1 10 ≡ 144 = omega (arith, e, f) in
    rw (p0, p5, p1, p3) refl

read_move_from_spr : (w : ℕ) (d : ℕ) (spr : ℕ) → w ≡ word (layout (MoveFromSpr d spr)) → Fit (layout (MoveFromSpr d spr)) → read w ≡ Some (MoveFromSpr d spr)
unfolding read read_31
read_move_from_spr w d spr e f =
    let p0 : cut w 26 6 ≡ 31 = omega (arith, e, f) in
    let p1 : cut w 21 5 ≡ d = omega (arith, e, f) in
    let p2 : cut w 16 5 ≡ spr % 32 = omega (arith, e, f) in
    let p3 : cut w 11 5 ≡ spr / 32 = omega (arith, e, f) in
    let p4 : cut w 1 10 ≡ 339 = omega (arith, e, f) in
    rw (p0, p4, p1, p2, p3) (ap (λ (n : ℕ). Some (MoveFromSpr d n)) (omega arith))

read_move_to_spr : (w : ℕ) (s : ℕ) (spr : ℕ) → w ≡ word (layout (MoveToSpr s spr)) → Fit (layout (MoveToSpr s spr)) → read w ≡ Some (MoveToSpr s spr)
unfolding read read_31
read_move_to_spr w s spr e f =
    let p0 : cut w 26 6 ≡ 31 = omega (arith, e, f) in
    let p1 : cut w 21 5 ≡ s = omega (arith, e, f) in
    let p2 : cut w 16 5 ≡ spr % 32 = omega (arith, e, f) in
    let p3 : cut w 11 5 ≡ spr / 32 = omega (arith, e, f) in
    let p4 : cut w 1 10 ≡ 467 = omega (arith, e, f) in
    rw (p0, p4, p1, p2, p3) (ap (λ (n : ℕ). Some (MoveToSpr s n)) (omega arith))

read_sync : (w : ℕ) → w ≡ word (layout Sync) → Fit (layout Sync) → read w ≡ Some Sync
unfolding read read_31
read_sync w e f =
    let p0 : cut w 26 6 ≡ 31 = omega (arith, e, f) in
    let p4 : cut w 1 10 ≡ 598 = omega (arith, e, f) in
    rw (p0, p4) (refl {a = some Sync})

named_load_indexed : (op : LoadIndexedOp) (w : ℕ) → cut w 1 10 ≡ load_indexed_opcode op → read_31 w ≡ Some (LoadIndexed op (cut w 21 5) (cut w 16 5) (cut w 11 5))
unfolding read_31
named_load_indexed Lwzx w e = rw e refl
named_load_indexed Lbzx w e = rw e refl
named_load_indexed Lhzx w e = rw e refl
named_load_indexed Lhax w e = rw e refl
named_load_indexed Lwbrx w e = rw e refl
named_load_indexed Lhbrx w e = rw e refl

read_load_indexed : (w : ℕ) (op : LoadIndexedOp) (d : ℕ) (a : ℕ) (b : ℕ) → w ≡ word (layout (LoadIndexed op d a b)) → Fit (layout (LoadIndexed op d a b)) → read w ≡ Some (LoadIndexed op d a b)
unfolding read
read_load_indexed w op d a b e f =
    let p0 : cut w 26 6 ≡ 31 = omega (arith, e, f) in
    let p1 : cut w 21 5 ≡ d = omega (arith, e, f) in
    let p2 : cut w 16 5 ≡ a = omega (arith, e, f) in
    let p3 : cut w 11 5 ≡ b = omega (arith, e, f) in
    let p4 : cut w 1 10 ≡ load_indexed_opcode op = omega (arith, e, f) in
    rw (p0, named_load_indexed op w p4, p1, p2, p3) refl

named_store_indexed : (op : StoreIndexedOp) (w : ℕ) → cut w 1 10 ≡ store_indexed_opcode op → read_31 w ≡ Some (StoreIndexed op (cut w 21 5) (cut w 16 5) (cut w 11 5))
unfolding read_31
named_store_indexed Stwx w e = rw e refl
named_store_indexed Stbx w e = rw e refl
named_store_indexed Sthx w e = rw e refl
named_store_indexed Stwbrx w e = rw e refl
named_store_indexed Sthbrx w e = rw e refl

read_store_indexed : (w : ℕ) (op : StoreIndexedOp) (s : ℕ) (a : ℕ) (b : ℕ) → w ≡ word (layout (StoreIndexed op s a b)) → Fit (layout (StoreIndexed op s a b)) → read w ≡ Some (StoreIndexed op s a b)
unfolding read
read_store_indexed w op s a b e f =
    let p0 : cut w 26 6 ≡ 31 = omega (arith, e, f) in
    let p1 : cut w 21 5 ≡ s = omega (arith, e, f) in
    let p2 : cut w 16 5 ≡ a = omega (arith, e, f) in
    let p3 : cut w 11 5 ≡ b = omega (arith, e, f) in
    let p4 : cut w 1 10 ≡ store_indexed_opcode op = omega (arith, e, f) in
    rw (p0, named_store_indexed op w p4, p1, p2, p3) refl

named_load_indexed_update : (op : LoadIndexedUpdateOp) (w : ℕ) → cut w 1 10 ≡ load_indexed_update_opcode op → read_31 w ≡ Some (LoadIndexedUpdate op (cut w 21 5) (cut w 16 5) (cut w 11 5))
unfolding read_31
named_load_indexed_update Lwzux w e = rw e refl
named_load_indexed_update Lbzux w e = rw e refl
named_load_indexed_update Lhzux w e = rw e refl
named_load_indexed_update Lhaux w e = rw e refl

read_load_indexed_update : (w : ℕ) (op : LoadIndexedUpdateOp) (d : ℕ) (a : ℕ) (b : ℕ) → w ≡ word (layout (LoadIndexedUpdate op d a b)) → Fit (layout (LoadIndexedUpdate op d a b)) → read w ≡ Some (LoadIndexedUpdate op d a b)
unfolding read
read_load_indexed_update w op d a b e f =
    let p0 : cut w 26 6 ≡ 31 = omega (arith, e, f) in
    let p1 : cut w 21 5 ≡ d = omega (arith, e, f) in
    let p2 : cut w 16 5 ≡ a = omega (arith, e, f) in
    let p3 : cut w 11 5 ≡ b = omega (arith, e, f) in
    let p4 : cut w 1 10 ≡ load_indexed_update_opcode op = omega (arith, e, f) in
    rw (p0, named_load_indexed_update op w p4, p1, p2, p3) refl

named_store_indexed_update : (op : StoreIndexedUpdateOp) (w : ℕ) → cut w 1 10 ≡ store_indexed_update_opcode op → read_31 w ≡ Some (StoreIndexedUpdate op (cut w 21 5) (cut w 16 5) (cut w 11 5))
unfolding read_31
named_store_indexed_update Stwux w e = rw e refl
named_store_indexed_update Stbux w e = rw e refl
named_store_indexed_update Sthux w e = rw e refl

read_store_indexed_update : (w : ℕ) (op : StoreIndexedUpdateOp) (s : ℕ) (a : ℕ) (b : ℕ) → w ≡ word (layout (StoreIndexedUpdate op s a b)) → Fit (layout (StoreIndexedUpdate op s a b)) → read w ≡ Some (StoreIndexedUpdate op s a b)
unfolding read
read_store_indexed_update w op s a b e f =
    let p0 : cut w 26 6 ≡ 31 = omega (arith, e, f) in
    let p1 : cut w 21 5 ≡ s = omega (arith, e, f) in
    let p2 : cut w 16 5 ≡ a = omega (arith, e, f) in
    let p3 : cut w 11 5 ≡ b = omega (arith, e, f) in
    let p4 : cut w 1 10 ≡ store_indexed_update_opcode op = omega (arith, e, f) in
    rw (p0, named_store_indexed_update op w p4, p1, p2, p3) refl

read_move_cr_field : (w : ℕ) (to : ℕ) (from : ℕ) → w ≡ word (layout (MoveCrField to from)) → Fit (layout (MoveCrField to from)) → read w ≡ Some (MoveCrField to from)
unfolding read read_19
read_move_cr_field w to from e f =
    let p0 : cut w 26 6 ≡ 19 = omega (arith, e, f) in
    let p1 : cut w 23 3 ≡ to = omega (arith, e, f) in
    let p3 : cut w 18 3 ≡ from = omega (arith, e, f) in
    let p6 : cut w 1 10 ≡ 0 = omega (arith, e, f) in
    rw (p0, p6, p1, p3) refl

named_cr_logic : (op : CrLogicOp) (w : ℕ) → cut w 1 10 ≡ cr_logic_opcode op → read_19 w ≡ Some (CrLogic op (cut w 21 5) (cut w 16 5) (cut w 11 5))
unfolding read_19
named_cr_logic Crand w e = rw e refl
named_cr_logic Cror w e = rw e refl
named_cr_logic Crxor w e = rw e refl
named_cr_logic Crnand w e = rw e refl
named_cr_logic Crnor w e = rw e refl
named_cr_logic Creqv w e = rw e refl
named_cr_logic Crandc w e = rw e refl
named_cr_logic Crorc w e = rw e refl

read_cr_logic : (w : ℕ) (op : CrLogicOp) (d : ℕ) (a : ℕ) (b : ℕ) → w ≡ word (layout (CrLogic op d a b)) → Fit (layout (CrLogic op d a b)) → read w ≡ Some (CrLogic op d a b)
unfolding read
read_cr_logic w op d a b e f =
    let p0 : cut w 26 6 ≡ 19 = omega (arith, e, f) in
    let p1 : cut w 21 5 ≡ d = omega (arith, e, f) in
    let p2 : cut w 16 5 ≡ a = omega (arith, e, f) in
    let p3 : cut w 11 5 ≡ b = omega (arith, e, f) in
    let p4 : cut w 1 10 ≡ cr_logic_opcode op = omega (arith, e, f) in
    rw (p0, named_cr_logic op w p4, p1, p2, p3) refl

read_isync : (w : ℕ) → w ≡ word (layout Isync) → Fit (layout Isync) → read w ≡ Some Isync
unfolding read read_19
read_isync w e f =
    let p0 : cut w 26 6 ≡ 19 = omega (arith, e, f) in
    let p4 : cut w 1 10 ≡ 150 = omega (arith, e, f) in
    rw (p0, p4) refl

named_branch_register : (op : BranchRegisterOp) (w : ℕ) → cut w 1 10 ≡ branch_register_opcode op → read_19 w ≡ Some (BranchRegister op (cut w 21 5) (cut w 16 5) (is_one (cut w 0 1)))
unfolding read_19
named_branch_register Bclr w e = rw e refl
named_branch_register Bcctr w e = rw e refl

read_branch_register : (w : ℕ) (op : BranchRegisterOp) (bo : ℕ) (bi : ℕ) (link : Bool) → w ≡ word (layout (BranchRegister op bo bi link)) → Fit (layout (BranchRegister op bo bi link)) → read w ≡ Some (BranchRegister op bo bi link)
unfolding read
read_branch_register w op bo bi link e f =
    let p0 : cut w 26 6 ≡ 19 = omega (arith, e, f) in
    let p1 : cut w 21 5 ≡ bo = omega (arith, e, f) in
    let p2 : cut w 16 5 ≡ bi = omega (arith, e, f) in
    let p4 : cut w 1 10 ≡ branch_register_opcode op = omega (arith, e, f) in
    let p5 : cut w 0 1 ≡ bit link = omega (arith, e, f) in
    rw (p0, named_branch_register op w p4, p1, p2, p5, is_one-bit link) refl

-- a legal word is read as its instruction
pub read_legal : (w : ℕ) (i : Instr) → IsWordOf w i → read w ≡ Some i
read_legal w (Immediate op d a imm) l = read_immediate w op d a imm l.spelled l.legal.fit
read_legal w (LogicImmediate op s a imm) l = read_logic_immediate w op s a imm l.spelled l.legal.fit
read_legal w (Load op d a imm) l = read_load w op d a imm l.spelled l.legal.fit
read_legal w (Store op s a imm) l = read_store w op s a imm l.spelled l.legal.fit
read_legal w (LoadUpdate op d a imm) l = read_load_update w op d a imm l.spelled l.legal.fit
read_legal w (StoreUpdate op s a imm) l = read_store_update w op s a imm l.spelled l.legal.fit
read_legal w (Multiple op d a imm) l = read_multiple w op d a imm l.spelled l.legal.fit
read_legal w (TrapImmediate to a imm) l = read_trap_immediate w to a imm l.spelled l.legal.fit
read_legal w (CompareImmediate op field a imm) l = read_compare_immediate w op field a imm l.spelled l.legal.fit
read_legal w (Rotate op s a by mask_begin mask_end records) l = read_rotate w op s a by mask_begin mask_end records l.spelled l.legal.fit
read_legal w (Branch target absolute link) l = read_branch w target absolute link l.spelled l.legal.fit
read_legal w (BranchConditional bo bi target absolute link) l = read_branch_conditional w bo bi target absolute link l.spelled l.legal.fit
read_legal w SystemCall l = read_system_call w l.spelled l.legal.fit
read_legal w (Arithmetic op d a b records) l = read_arithmetic w op d a b records l.spelled l.legal.fit
read_legal w (ArithmeticUnary op d a records) l = read_arithmetic_unary w op d a records l.spelled l.legal.fit
read_legal w (Logic op s a b records) l = read_logic w op s a b records l.spelled l.legal.fit
read_legal w (ShiftImmediate s a by records) l = read_shift_immediate w s a by records l.spelled l.legal.fit
read_legal w (LogicUnary op s a records) l = read_logic_unary w op s a records l.spelled l.legal.fit
read_legal w (Compare op field a b) l = read_compare w op field a b l.spelled l.legal.fit
read_legal w (Trap to a b) l = read_trap w to a b l.spelled l.legal.fit
read_legal w (MoveFromCr d) l = read_move_from_cr w d l.spelled l.legal.fit
read_legal w (MoveToCr s mask) l = read_move_to_cr w s mask l.spelled l.legal.fit
read_legal w (MoveFromSpr d spr) l = read_move_from_spr w d spr l.spelled l.legal.fit
read_legal w (MoveToSpr s spr) l = read_move_to_spr w s spr l.spelled l.legal.fit
read_legal w Sync l = read_sync w l.spelled l.legal.fit
read_legal w (LoadIndexed op d a b) l = read_load_indexed w op d a b l.spelled l.legal.fit
read_legal w (StoreIndexed op s a b) l = read_store_indexed w op s a b l.spelled l.legal.fit
read_legal w (LoadIndexedUpdate op d a b) l = read_load_indexed_update w op d a b l.spelled l.legal.fit
read_legal w (StoreIndexedUpdate op s a b) l = read_store_indexed_update w op s a b l.spelled l.legal.fit
read_legal w (MoveCrField to from) l = read_move_cr_field w to from l.spelled l.legal.fit
read_legal w (CrLogic op d a b) l = read_cr_logic w op d a b l.spelled l.legal.fit
read_legal w Isync l = read_isync w l.spelled l.legal.fit
read_legal w (BranchRegister op bo bi link) l = read_branch_register w op bo bi link l.spelled l.legal.fit

-- so it is read as something
pub is_read : (w : ℕ) (i : Instr) → IsWordOf w i → none ≡ read w → ⊥
is_read w i l n = let e : none ≡ some i = n ∙ read_legal w i l in not_some i e

-- what a legal word is read as is its instruction
pub is_legal : (w : ℕ) (i j : Instr) → IsWordOf w i → some j ≡ read w → IsWordOf w j
is_legal w i j l h = subst (λ (x : Instr). IsWordOf w x) (sym (some_is j i (h ∙ read_legal w i l))) l

pub one_of : (w : ℕ) (i j : Instr) → IsWordOf w i → IsWordOf w j → i ≡ j
one_of w i j p q = some_is i j (sym (read_legal w i p) ∙ read_legal w j q)
