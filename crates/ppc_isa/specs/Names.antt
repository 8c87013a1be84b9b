-- The mnemonics of Power ISA Book I, without operands.
use Rattle.std.specs.Prelude.{ℕ, List, ◌++◌, Bool, true, false, codes}
use Rattle.ppc_isa.specs.Instruction.{Instr, Immediate, LogicImmediate, Load, Store, LoadUpdate, StoreUpdate, Multiple, TrapImmediate, CompareImmediate, Rotate, Branch, BranchConditional, SystemCall, Arithmetic, ArithmeticUnary, Logic, ShiftImmediate, LogicUnary, Compare, Trap, MoveFromCr, MoveToCr, MoveFromSpr, MoveToSpr, Sync, LoadIndexed, StoreIndexed, LoadIndexedUpdate, StoreIndexedUpdate, MoveCrField, CrLogic, Isync, BranchRegister, ImmediateOp, Addi, Addis, Addic, AddicRecord, Subfic, Mulli, LogicImmediateOp, Ori, Oris, Xori, Xoris, Andi, Andis, LoadOp, Lwz, Lbz, Lhz, Lha, StoreOp, Stw, Stb, Sth, LoadUpdateOp, Lwzu, Lbzu, Lhzu, Lhau, StoreUpdateOp, Stwu, Stbu, Sthu, MultipleOp, Lmw, Stmw, CompareImmediateOp, Cmpi, Cmpli, RotateOp, Rlwinm, Rlwnm, Rlwimi, ArithmeticOp, Add, Addc, Adde, Subf, Subfc, Subfe, Mullw, Mulhw, Mulhwu, Divw, Divwu, ArithmeticUnaryOp, Addze, Addme, Subfze, Subfme, Neg, LogicOp, And, Or, Xor, Nand, Nor, Eqv, Andc, Orc, Slw, Srw, Sraw, LogicUnaryOp, Cntlzw, Extsb, Extsh, CompareOp, Cmp, Cmpl, LoadIndexedOp, Lwzx, Lbzx, Lhzx, Lhax, Lwbrx, Lhbrx, StoreIndexedOp, Stwx, Stbx, Sthx, Stwbrx, Sthbrx, LoadIndexedUpdateOp, Lwzux, Lbzux, Lhzux, Lhaux, StoreIndexedUpdateOp, Stwux, Stbux, Sthux, CrLogicOp, Crand, Cror, Crxor, Crnand, Crnor, Creqv, Crandc, Crorc, BranchRegisterOp, Bclr, Bcctr}

-- A recording form has a dot behind the name.
abbrev pub recording : Bool → List ℕ → List ℕ
recording true name = name ++ codes "."
recording false name = name

abbrev pub immediate_name : ImmediateOp → List ℕ
immediate_name Addi = codes "addi"
immediate_name Addis = codes "addis"
immediate_name Addic = codes "addic"
immediate_name AddicRecord = codes "addic."
immediate_name Subfic = codes "subfic"
immediate_name Mulli = codes "mulli"

abbrev pub logic_immediate_name : LogicImmediateOp → List ℕ
logic_immediate_name Ori = codes "ori"
logic_immediate_name Oris = codes "oris"
logic_immediate_name Xori = codes "xori"
logic_immediate_name Xoris = codes "xoris"
logic_immediate_name Andi = codes "andi."
logic_immediate_name Andis = codes "andis."

abbrev pub load_name : LoadOp → List ℕ
load_name Lwz = codes "lwz"
load_name Lbz = codes "lbz"
load_name Lhz = codes "lhz"
load_name Lha = codes "lha"

abbrev pub store_name : StoreOp → List ℕ
store_name Stw = codes "stw"
store_name Stb = codes "stb"
store_name Sth = codes "sth"

abbrev pub load_update_name : LoadUpdateOp → List ℕ
load_update_name Lwzu = codes "lwzu"
load_update_name Lbzu = codes "lbzu"
load_update_name Lhzu = codes "lhzu"
load_update_name Lhau = codes "lhau"

abbrev pub store_update_name : StoreUpdateOp → List ℕ
store_update_name Stwu = codes "stwu"
store_update_name Stbu = codes "stbu"
store_update_name Sthu = codes "sthu"

abbrev pub multiple_name : MultipleOp → List ℕ
multiple_name Lmw = codes "lmw"
multiple_name Stmw = codes "stmw"

abbrev pub compare_immediate_name : CompareImmediateOp → List ℕ
compare_immediate_name Cmpi = codes "cmpi"
compare_immediate_name Cmpli = codes "cmpli"

abbrev pub rotate_name : RotateOp → List ℕ
rotate_name Rlwinm = codes "rlwinm"
rotate_name Rlwnm = codes "rlwnm"
rotate_name Rlwimi = codes "rlwimi"

abbrev pub arithmetic_name : ArithmeticOp → List ℕ
arithmetic_name Add = codes "add"
arithmetic_name Addc = codes "addc"
arithmetic_name Adde = codes "adde"
arithmetic_name Subf = codes "subf"
arithmetic_name Subfc = codes "subfc"
arithmetic_name Subfe = codes "subfe"
arithmetic_name Mullw = codes "mullw"
arithmetic_name Mulhw = codes "mulhw"
arithmetic_name Mulhwu = codes "mulhwu"
arithmetic_name Divw = codes "divw"
arithmetic_name Divwu = codes "divwu"

abbrev pub arithmetic_unary_name : ArithmeticUnaryOp → List ℕ
arithmetic_unary_name Addze = codes "addze"
arithmetic_unary_name Addme = codes "addme"
arithmetic_unary_name Subfze = codes "subfze"
arithmetic_unary_name Subfme = codes "subfme"
arithmetic_unary_name Neg = codes "neg"

abbrev pub logic_name : LogicOp → List ℕ
logic_name And = codes "and"
logic_name Or = codes "or"
logic_name Xor = codes "xor"
logic_name Nand = codes "nand"
logic_name Nor = codes "nor"
logic_name Eqv = codes "eqv"
logic_name Andc = codes "andc"
logic_name Orc = codes "orc"
logic_name Slw = codes "slw"
logic_name Srw = codes "srw"
logic_name Sraw = codes "sraw"

abbrev pub logic_unary_name : LogicUnaryOp → List ℕ
logic_unary_name Cntlzw = codes "cntlzw"
logic_unary_name Extsb = codes "extsb"
logic_unary_name Extsh = codes "extsh"

abbrev pub compare_name : CompareOp → List ℕ
compare_name Cmp = codes "cmp"
compare_name Cmpl = codes "cmpl"

abbrev pub load_indexed_name : LoadIndexedOp → List ℕ
load_indexed_name Lwzx = codes "lwzx"
load_indexed_name Lbzx = codes "lbzx"
load_indexed_name Lhzx = codes "lhzx"
load_indexed_name Lhax = codes "lhax"
load_indexed_name Lwbrx = codes "lwbrx"
load_indexed_name Lhbrx = codes "lhbrx"

abbrev pub store_indexed_name : StoreIndexedOp → List ℕ
store_indexed_name Stwx = codes "stwx"
store_indexed_name Stbx = codes "stbx"
store_indexed_name Sthx = codes "sthx"
store_indexed_name Stwbrx = codes "stwbrx"
store_indexed_name Sthbrx = codes "sthbrx"

abbrev pub load_indexed_update_name : LoadIndexedUpdateOp → List ℕ
load_indexed_update_name Lwzux = codes "lwzux"
load_indexed_update_name Lbzux = codes "lbzux"
load_indexed_update_name Lhzux = codes "lhzux"
load_indexed_update_name Lhaux = codes "lhaux"

abbrev pub store_indexed_update_name : StoreIndexedUpdateOp → List ℕ
store_indexed_update_name Stwux = codes "stwux"
store_indexed_update_name Stbux = codes "stbux"
store_indexed_update_name Sthux = codes "sthux"

abbrev pub cr_logic_name : CrLogicOp → List ℕ
cr_logic_name Crand = codes "crand"
cr_logic_name Cror = codes "cror"
cr_logic_name Crxor = codes "crxor"
cr_logic_name Crnand = codes "crnand"
cr_logic_name Crnor = codes "crnor"
cr_logic_name Creqv = codes "creqv"
cr_logic_name Crandc = codes "crandc"
cr_logic_name Crorc = codes "crorc"

abbrev pub branch_register_name : BranchRegisterOp → List ℕ
branch_register_name Bclr = codes "bclr"
branch_register_name Bcctr = codes "bcctr"

abbrev pub mnemonic_of : Instr → List ℕ
mnemonic_of (Immediate op _ _ _) = immediate_name op
mnemonic_of (LogicImmediate op _ _ _) = logic_immediate_name op
mnemonic_of (Load op _ _ _) = load_name op
mnemonic_of (Store op _ _ _) = store_name op
mnemonic_of (LoadUpdate op _ _ _) = load_update_name op
mnemonic_of (StoreUpdate op _ _ _) = store_update_name op
mnemonic_of (Multiple op _ _ _) = multiple_name op
mnemonic_of (TrapImmediate _ _ _) = codes "twi"
mnemonic_of (CompareImmediate op _ _ _) = compare_immediate_name op
mnemonic_of (Rotate op _ _ _ _ _ records) = recording records (rotate_name op)
mnemonic_of (Branch _ _ _) = codes "b"
mnemonic_of (BranchConditional _ _ _ _ _) = codes "bc"
mnemonic_of SystemCall = codes "sc"
mnemonic_of (Arithmetic op _ _ _ records) = recording records (arithmetic_name op)
mnemonic_of (ArithmeticUnary op _ _ records) = recording records (arithmetic_unary_name op)
mnemonic_of (Logic op _ _ _ records) = recording records (logic_name op)
mnemonic_of (ShiftImmediate _ _ _ records) = recording records (codes "srawi")
mnemonic_of (LogicUnary op _ _ records) = recording records (logic_unary_name op)
mnemonic_of (Compare op _ _ _) = compare_name op
mnemonic_of (Trap _ _ _) = codes "tw"
mnemonic_of (MoveFromCr _) = codes "mfcr"
mnemonic_of (MoveToCr _ _) = codes "mtcrf"
mnemonic_of (MoveFromSpr _ _) = codes "mfspr"
mnemonic_of (MoveToSpr _ _) = codes "mtspr"
mnemonic_of Sync = codes "sync"
mnemonic_of (LoadIndexed op _ _ _) = load_indexed_name op
mnemonic_of (StoreIndexed op _ _ _) = store_indexed_name op
mnemonic_of (LoadIndexedUpdate op _ _ _) = load_indexed_update_name op
mnemonic_of (StoreIndexedUpdate op _ _ _) = store_indexed_update_name op
mnemonic_of (MoveCrField _ _) = codes "mcrf"
mnemonic_of (CrLogic op _ _ _) = cr_logic_name op
mnemonic_of Isync = codes "isync"
mnemonic_of (BranchRegister op _ _ _) = branch_register_name op
