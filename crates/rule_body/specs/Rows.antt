-- Which instructions a window may have. This project's own.
use Rattle.std.specs.Prelude.{◌==◌, ◌&&◌, Bool, true, false, not}
use Rattle.ppc_isa.specs.declared.instr.Instr.{Instr}
use Rattle.ppc_isa.specs.declared.instr.Instr.TheVariants.{Immediate, LogicImmediate, Load, Store, LoadUpdate, StoreUpdate, Multiple, TrapImmediate, CompareImmediate, Branch, BranchConditional, SystemCall, Arithmetic, Trap, LoadIndexed, StoreIndexed, LoadIndexedUpdate, StoreIndexedUpdate, BranchRegister}
use Rattle.ppc_isa.specs.declared.instr.ArithmeticOp.TheVariants.{Divw, Divwu}
use Rattle.ppc_isa.specs.Legal.{bo_0, bo_2}

-- all but the multiple loads and stores, the divisions, and what may leave the words that follow: branches, traps and sc
abbrev pub is_plain : Instr → Bool
is_plain (Multiple op d a imm) = false
is_plain (Arithmetic Divw d a b records) = false
is_plain (Arithmetic Divwu d a b records) = false
is_plain (Branch target absolute link) = false
is_plain (BranchConditional bo bi target absolute link) = false
is_plain (BranchRegister op bo bi link) = false
is_plain SystemCall = false
is_plain (TrapImmediate to a imm) = false
is_plain (Trap to a b) = false
is_plain _ = true

-- the conditional branch that a window may end in: on a bit of CR alone, without a link, and with 0 for its target, which
-- stands for every target
abbrev pub is_ending : Instr → Bool
is_ending (BranchConditional bo bi target absolute link) = bo_0 bo == 0 && bo_2 bo == 1 && target == 0 && not absolute && not link
is_ending _ = false

-- with an immediate of 16 bits, which is 0 and stands for every value
abbrev pub is_open : Instr → Bool
is_open (Immediate op d a imm) = imm == 0
is_open (LogicImmediate op s a imm) = imm == 0
is_open (Load op d a imm) = imm == 0
is_open (Store op s a imm) = imm == 0
is_open (LoadUpdate op d a imm) = imm == 0
is_open (StoreUpdate op s a imm) = imm == 0
is_open (CompareImmediate op field a imm) = imm == 0
is_open _ = false

-- loads and stores
abbrev pub has_access : Instr → Bool
has_access (Load op d a imm) = true
has_access (Store op s a imm) = true
has_access (LoadUpdate op d a imm) = true
has_access (StoreUpdate op s a imm) = true
has_access (Multiple op d a imm) = true
has_access (LoadIndexed op d a b) = true
has_access (StoreIndexed op s a b) = true
has_access (LoadIndexedUpdate op d a b) = true
has_access (StoreIndexedUpdate op s a b) = true
has_access _ = false
