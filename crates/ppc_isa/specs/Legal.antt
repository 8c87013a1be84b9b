-- The legal words: Power ISA Book I, the instruction formats and the opcodes of the 32-bit fixed-point and branch
-- instructions. What a format leaves reserved stands in its layout as a field with the value 0.
use Rattle.std.specs.Prelude.{ℕ, ◌≡◌, ◌≢◌, ◌/◌, ◌%◌, ◌<◌, ◌⊎◌, List, [], ◌∷◌, Bool, true, false, Option, Some}
use Rattle.ppc_isa.specs.Word.{Field, bits, word, Fit}
use Rattle.ppc_isa.specs.Instruction.{Instr, Immediate, LogicImmediate, Load, Store, LoadUpdate, StoreUpdate, Multiple, TrapImmediate, CompareImmediate, Rotate, Branch, BranchConditional, SystemCall, Arithmetic, ArithmeticUnary, Logic, ShiftImmediate, LogicUnary, Compare, Trap, MoveFromCr, MoveToCr, MoveFromSpr, MoveToSpr, Sync, LoadIndexed, StoreIndexed, LoadIndexedUpdate, StoreIndexedUpdate, MoveCrField, CrLogic, Isync, BranchRegister, ImmediateOp, Addi, Addis, Addic, AddicRecord, Subfic, Mulli, LogicImmediateOp, Ori, Oris, Xori, Xoris, Andi, Andis, LoadOp, Lwz, Lbz, Lhz, Lha, StoreOp, Stw, Stb, Sth, LoadUpdateOp, Lwzu, Lbzu, Lhzu, Lhau, StoreUpdateOp, Stwu, Stbu, Sthu, MultipleOp, Lmw, Stmw, CompareImmediateOp, Cmpi, Cmpli, RotateOp, Rlwinm, Rlwnm, Rlwimi, ArithmeticOp, Add, Addc, Adde, Subf, Subfc, Subfe, Mullw, Mulhw, Mulhwu, Divw, Divwu, ArithmeticUnaryOp, Addze, Addme, Subfze, Subfme, Neg, LogicOp, And, Or, Xor, Nand, Nor, Eqv, Andc, Orc, Slw, Srw, Sraw, LogicUnaryOp, Cntlzw, Extsb, Extsh, CompareOp, Cmp, Cmpl, LoadIndexedOp, Lwzx, Lbzx, Lhzx, Lhax, Lwbrx, Lhbrx, StoreIndexedOp, Stwx, Stbx, Sthx, Stwbrx, Sthbrx, LoadIndexedUpdateOp, Lwzux, Lbzux, Lhzux, Lhaux, StoreIndexedUpdateOp, Stwux, Stbux, Sthux, CrLogicOp, Crand, Cror, Crxor, Crnand, Crnor, Creqv, Crandc, Crorc, BranchRegisterOp, Bclr, Bcctr}

-- a field of one bit
abbrev pub bit : Bool → ℕ
bit true = 1
bit false = 0

-- Primary opcodes, of instructions that have no other number.
abbrev pub immediate_opcode : ImmediateOp → ℕ
immediate_opcode Addi = 14
immediate_opcode Addis = 15
immediate_opcode Addic = 12
immediate_opcode AddicRecord = 13
immediate_opcode Subfic = 8
immediate_opcode Mulli = 7

abbrev pub logic_immediate_opcode : LogicImmediateOp → ℕ
logic_immediate_opcode Ori = 24
logic_immediate_opcode Oris = 25
logic_immediate_opcode Xori = 26
logic_immediate_opcode Xoris = 27
logic_immediate_opcode Andi = 28
logic_immediate_opcode Andis = 29

abbrev pub load_opcode : LoadOp → ℕ
load_opcode Lwz = 32
load_opcode Lbz = 34
load_opcode Lhz = 40
load_opcode Lha = 42

abbrev pub store_opcode : StoreOp → ℕ
store_opcode Stw = 36
store_opcode Stb = 38
store_opcode Sth = 44

abbrev pub load_update_opcode : LoadUpdateOp → ℕ
load_update_opcode Lwzu = 33
load_update_opcode Lbzu = 35
load_update_opcode Lhzu = 41
load_update_opcode Lhau = 43

abbrev pub store_update_opcode : StoreUpdateOp → ℕ
store_update_opcode Stwu = 37
store_update_opcode Stbu = 39
store_update_opcode Sthu = 45

abbrev pub multiple_opcode : MultipleOp → ℕ
multiple_opcode Lmw = 46
multiple_opcode Stmw = 47

abbrev pub compare_immediate_opcode : CompareImmediateOp → ℕ
compare_immediate_opcode Cmpi = 11
compare_immediate_opcode Cmpli = 10

abbrev pub rotate_opcode : RotateOp → ℕ
rotate_opcode Rlwinm = 21
rotate_opcode Rlwnm = 23
rotate_opcode Rlwimi = 20

-- Extended opcodes. Those of the XO format have nine bits behind the bit OE, which is 0 in every legal word here: the two
-- are one number of ten bits.
abbrev pub arithmetic_opcode : ArithmeticOp → ℕ
arithmetic_opcode Add = 266
arithmetic_opcode Addc = 10
arithmetic_opcode Adde = 138
arithmetic_opcode Subf = 40
arithmetic_opcode Subfc = 8
arithmetic_opcode Subfe = 136
arithmetic_opcode Mullw = 235
arithmetic_opcode Mulhw = 75
arithmetic_opcode Mulhwu = 11
arithmetic_opcode Divw = 491
arithmetic_opcode Divwu = 459

abbrev pub arithmetic_unary_opcode : ArithmeticUnaryOp → ℕ
arithmetic_unary_opcode Addze = 202
arithmetic_unary_opcode Addme = 234
arithmetic_unary_opcode Subfze = 200
arithmetic_unary_opcode Subfme = 232
arithmetic_unary_opcode Neg = 104

abbrev pub logic_opcode : LogicOp → ℕ
logic_opcode And = 28
logic_opcode Or = 444
logic_opcode Xor = 316
logic_opcode Nand = 476
logic_opcode Nor = 124
logic_opcode Eqv = 284
logic_opcode Andc = 60
logic_opcode Orc = 412
logic_opcode Slw = 24
logic_opcode Srw = 536
logic_opcode Sraw = 792

abbrev pub logic_unary_opcode : LogicUnaryOp → ℕ
logic_unary_opcode Cntlzw = 26
logic_unary_opcode Extsb = 954
logic_unary_opcode Extsh = 922

abbrev pub compare_opcode : CompareOp → ℕ
compare_opcode Cmp = 0
compare_opcode Cmpl = 32

abbrev pub load_indexed_opcode : LoadIndexedOp → ℕ
load_indexed_opcode Lwzx = 23
load_indexed_opcode Lbzx = 87
load_indexed_opcode Lhzx = 279
load_indexed_opcode Lhax = 343
load_indexed_opcode Lwbrx = 534
load_indexed_opcode Lhbrx = 790

abbrev pub store_indexed_opcode : StoreIndexedOp → ℕ
store_indexed_opcode Stwx = 151
store_indexed_opcode Stbx = 215
store_indexed_opcode Sthx = 407
store_indexed_opcode Stwbrx = 662
store_indexed_opcode Sthbrx = 918

abbrev pub load_indexed_update_opcode : LoadIndexedUpdateOp → ℕ
load_indexed_update_opcode Lwzux = 55
load_indexed_update_opcode Lbzux = 119
load_indexed_update_opcode Lhzux = 311
load_indexed_update_opcode Lhaux = 375

abbrev pub store_indexed_update_opcode : StoreIndexedUpdateOp → ℕ
store_indexed_update_opcode Stwux = 183
store_indexed_update_opcode Stbux = 247
store_indexed_update_opcode Sthux = 439

abbrev pub cr_logic_opcode : CrLogicOp → ℕ
cr_logic_opcode Crand = 257
cr_logic_opcode Cror = 449
cr_logic_opcode Crxor = 193
cr_logic_opcode Crnand = 225
cr_logic_opcode Crnor = 33
cr_logic_opcode Creqv = 289
cr_logic_opcode Crandc = 129
cr_logic_opcode Crorc = 417

abbrev pub branch_register_opcode : BranchRegisterOp → ℕ
branch_register_opcode Bclr = 16
branch_register_opcode Bcctr = 528

-- The fields of an instruction, from the left.
abbrev pub layout : Instr → List Field
-- format D
layout (Immediate op d a imm) = bits 6 (immediate_opcode op) ∷ bits 5 d ∷ bits 5 a ∷ bits 16 imm ∷ []
layout (LogicImmediate op s a imm) = bits 6 (logic_immediate_opcode op) ∷ bits 5 s ∷ bits 5 a ∷ bits 16 imm ∷ []
layout (Load op d a imm) = bits 6 (load_opcode op) ∷ bits 5 d ∷ bits 5 a ∷ bits 16 imm ∷ []
layout (Store op s a imm) = bits 6 (store_opcode op) ∷ bits 5 s ∷ bits 5 a ∷ bits 16 imm ∷ []
layout (LoadUpdate op d a imm) = bits 6 (load_update_opcode op) ∷ bits 5 d ∷ bits 5 a ∷ bits 16 imm ∷ []
layout (StoreUpdate op s a imm) = bits 6 (store_update_opcode op) ∷ bits 5 s ∷ bits 5 a ∷ bits 16 imm ∷ []
layout (Multiple op d a imm) = bits 6 (multiple_opcode op) ∷ bits 5 d ∷ bits 5 a ∷ bits 16 imm ∷ []
layout (TrapImmediate to a imm) = bits 6 3 ∷ bits 5 to ∷ bits 5 a ∷ bits 16 imm ∷ []
layout (CompareImmediate op field a imm) = bits 6 (compare_immediate_opcode op) ∷ bits 3 field ∷ bits 2 0 ∷ bits 5 a ∷ bits 16 imm ∷ []
-- format M
layout (Rotate op s a by mask_begin mask_end records) = bits 6 (rotate_opcode op) ∷ bits 5 s ∷ bits 5 a ∷ bits 5 by ∷ bits 5 mask_begin ∷ bits 5 mask_end ∷ bits 1 (bit records) ∷ []
-- formats I, B and SC
layout (Branch target absolute link) = bits 6 18 ∷ bits 24 target ∷ bits 1 (bit absolute) ∷ bits 1 (bit link) ∷ []
layout (BranchConditional bo bi target absolute link) = bits 6 16 ∷ bits 5 bo ∷ bits 5 bi ∷ bits 14 target ∷ bits 1 (bit absolute) ∷ bits 1 (bit link) ∷ []
layout SystemCall = bits 6 17 ∷ bits 24 0 ∷ bits 1 1 ∷ bits 1 0 ∷ []
-- format XO
layout (Arithmetic op d a b records) = bits 6 31 ∷ bits 5 d ∷ bits 5 a ∷ bits 5 b ∷ bits 10 (arithmetic_opcode op) ∷ bits 1 (bit records) ∷ []
layout (ArithmeticUnary op d a records) = bits 6 31 ∷ bits 5 d ∷ bits 5 a ∷ bits 5 0 ∷ bits 10 (arithmetic_unary_opcode op) ∷ bits 1 (bit records) ∷ []
-- formats X and XFX
layout (Logic op s a b records) = bits 6 31 ∷ bits 5 s ∷ bits 5 a ∷ bits 5 b ∷ bits 10 (logic_opcode op) ∷ bits 1 (bit records) ∷ []
layout (ShiftImmediate s a by records) = bits 6 31 ∷ bits 5 s ∷ bits 5 a ∷ bits 5 by ∷ bits 10 824 ∷ bits 1 (bit records) ∷ []
layout (LogicUnary op s a records) = bits 6 31 ∷ bits 5 s ∷ bits 5 a ∷ bits 5 0 ∷ bits 10 (logic_unary_opcode op) ∷ bits 1 (bit records) ∷ []
layout (Compare op field a b) = bits 6 31 ∷ bits 3 field ∷ bits 2 0 ∷ bits 5 a ∷ bits 5 b ∷ bits 10 (compare_opcode op) ∷ bits 1 0 ∷ []
layout (Trap to a b) = bits 6 31 ∷ bits 5 to ∷ bits 5 a ∷ bits 5 b ∷ bits 10 4 ∷ bits 1 0 ∷ []
layout (MoveFromCr d) = bits 6 31 ∷ bits 5 d ∷ bits 5 0 ∷ bits 5 0 ∷ bits 10 19 ∷ bits 1 0 ∷ []
layout (MoveToCr s mask) = bits 6 31 ∷ bits 5 s ∷ bits 1 0 ∷ bits 8 mask ∷ bits 1 0 ∷ bits 10 144 ∷ bits 1 0 ∷ []
layout (MoveFromSpr d spr) = bits 6 31 ∷ bits 5 d ∷ bits 5 (spr % 32) ∷ bits 5 (spr / 32) ∷ bits 10 339 ∷ bits 1 0 ∷ []
layout (MoveToSpr s spr) = bits 6 31 ∷ bits 5 s ∷ bits 5 (spr % 32) ∷ bits 5 (spr / 32) ∷ bits 10 467 ∷ bits 1 0 ∷ []
layout Sync = bits 6 31 ∷ bits 5 0 ∷ bits 5 0 ∷ bits 5 0 ∷ bits 10 598 ∷ bits 1 0 ∷ []
layout (LoadIndexed op d a b) = bits 6 31 ∷ bits 5 d ∷ bits 5 a ∷ bits 5 b ∷ bits 10 (load_indexed_opcode op) ∷ bits 1 0 ∷ []
layout (StoreIndexed op s a b) = bits 6 31 ∷ bits 5 s ∷ bits 5 a ∷ bits 5 b ∷ bits 10 (store_indexed_opcode op) ∷ bits 1 0 ∷ []
layout (LoadIndexedUpdate op d a b) = bits 6 31 ∷ bits 5 d ∷ bits 5 a ∷ bits 5 b ∷ bits 10 (load_indexed_update_opcode op) ∷ bits 1 0 ∷ []
layout (StoreIndexedUpdate op s a b) = bits 6 31 ∷ bits 5 s ∷ bits 5 a ∷ bits 5 b ∷ bits 10 (store_indexed_update_opcode op) ∷ bits 1 0 ∷ []
-- format XL
layout (MoveCrField to from) = bits 6 19 ∷ bits 3 to ∷ bits 2 0 ∷ bits 3 from ∷ bits 2 0 ∷ bits 5 0 ∷ bits 10 0 ∷ bits 1 0 ∷ []
layout (CrLogic op d a b) = bits 6 19 ∷ bits 5 d ∷ bits 5 a ∷ bits 5 b ∷ bits 10 (cr_logic_opcode op) ∷ bits 1 0 ∷ []
layout Isync = bits 6 19 ∷ bits 5 0 ∷ bits 5 0 ∷ bits 5 0 ∷ bits 10 150 ∷ bits 1 0 ∷ []
layout (BranchRegister op bo bi link) = bits 6 19 ∷ bits 5 bo ∷ bits 5 bi ∷ bits 5 0 ∷ bits 10 (branch_register_opcode op) ∷ bits 1 (bit link) ∷ []

-- the numbers of XER, LR and CTR
abbrev pub IsSpr : ℕ → Type 0
IsSpr n = (n ≡ 1) ⊎ ((n ≡ 8) ⊎ (n ≡ 9))

-- Bits 0 and 2 of the five bits of BO: 1 where a branch looks at no bit of CR, and where it doesn't count CTR down.
abbrev pub bo_0 : ℕ → ℕ
bo_0 bo = bo / 16 % 2

abbrev pub bo_2 : ℕ → ℕ
bo_2 bo = bo / 4 % 2

-- What Book I calls invalid forms, though their fields fit: an update of register 0, or of the register that is loaded; a
-- load of many registers, the base among them; a branch to CTR that counts CTR down. A move from or to another special
-- register is no legal word here.
abbrev pub Allowed : Instr → Type 0
Allowed (LoadUpdate op d a imm) = (a ≢ 0) × (a ≢ d)
Allowed (StoreUpdate op s a imm) = a ≢ 0
Allowed (LoadIndexedUpdate op d a b) = (a ≢ 0) × (a ≢ d)
Allowed (StoreIndexedUpdate op s a b) = a ≢ 0
Allowed (Multiple Lmw d a imm) = a < d
Allowed (MoveFromSpr d spr) = IsSpr spr
Allowed (MoveToSpr s spr) = IsSpr spr
Allowed (BranchRegister Bcctr bo bi link) = bo_2 bo ≡ 1
Allowed _ = Unit {0}

-- Each number of the instruction fits its field, and the form is legal.
pub record IsLegal (i : Instr) : Type 0 where
  pub fit : Fit (layout i)
  pub allowed : Allowed i

-- The word is legal, as this instruction's.
pub record IsWordOf (w : ℕ) (i : Instr) : Type 0 where
  pub spelled : w ≡ word (layout i)
  pub legal : IsLegal i

-- No word is that of two instructions.
abbrev pub HasOneInstruction : ℕ → Type 0
HasOneInstruction w = (i j : Instr) → IsWordOf w i → IsWordOf w j → i ≡ j

-- The function gives the instruction of each legal word, and None at every other number.
pub record ReadsWords (reading : ℕ → Option Instr) : Type 0 where
  pub found : (w : ℕ) (i : Instr) → reading w ≡ Some i → IsWordOf w i
  pub only : (w : ℕ) (i : Instr) → IsWordOf w i → reading w ≡ Some i
