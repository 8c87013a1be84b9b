-- The flow words: branches (Power ISA Book I, 2.4), sc (2.6) and the traps (3.3.11). Each form of instruction stands by its
-- name, so that a further form is judged here.
use Rattle.std.specs.Prelude.{Bool, true, false}
use Rattle.machines.specs.Prelude.{Instr, Immediate, LogicImmediate, Load, Store, LoadUpdate, StoreUpdate, Multiple, TrapImmediate, CompareImmediate, Rotate, Branch, BranchConditional, SystemCall, Arithmetic, ArithmeticUnary, Logic, ShiftImmediate, LogicUnary, Compare, Trap, MoveFromCr, MoveToCr, MoveFromSpr, MoveToSpr, Sync, LoadIndexed, StoreIndexed, LoadIndexedUpdate, StoreIndexedUpdate, MoveCrField, CrLogic, Isync, BranchRegister}

-- the instruction may go on elsewhere than behind itself, make a call, or end the run as its own doing
abbrev pub is_flow : Instr → Bool
is_flow (Branch target absolute link) = true
is_flow (BranchConditional bo bi target absolute link) = true
is_flow (BranchRegister op bo bi link) = true
is_flow (Trap to a b) = true
is_flow (TrapImmediate to a imm) = true
is_flow SystemCall = true
is_flow (Immediate op d a imm) = false
is_flow (LogicImmediate op s a imm) = false
is_flow (Load op d a imm) = false
is_flow (Store op s a imm) = false
is_flow (LoadUpdate op d a imm) = false
is_flow (StoreUpdate op s a imm) = false
is_flow (Multiple op d a imm) = false
is_flow (CompareImmediate op field a imm) = false
is_flow (Rotate op s a by mask_begin mask_end records) = false
is_flow (Arithmetic op d a b records) = false
is_flow (ArithmeticUnary op d a records) = false
is_flow (Logic op s a b records) = false
is_flow (ShiftImmediate s a by records) = false
is_flow (LogicUnary op s a records) = false
is_flow (Compare op field a b) = false
is_flow (MoveFromCr d) = false
is_flow (MoveToCr s mask) = false
is_flow (MoveFromSpr d spr) = false
is_flow (MoveToSpr s spr) = false
is_flow Sync = false
is_flow (LoadIndexed op d a b) = false
is_flow (StoreIndexed op s a b) = false
is_flow (LoadIndexedUpdate op d a b) = false
is_flow (StoreIndexedUpdate op s a b) = false
is_flow (MoveCrField to from) = false
is_flow (CrLogic op d a b) = false
is_flow Isync = false
