-- The guest: the PowerPC of Power ISA Book I with the calls of Linux.
use Rattle.std.specs.Prelude.{ℕ, zero, suc, ◌+◌, ◌-◌, ◌*◌, ◌/◌, ◌%◌, ◌^◌, Bool, true, false, cond, ◌&&◌, ◌||◌, eqb, leb, ltb, List, length, Option, Some, None}
use Rattle.space.specs.declared.call.End.TheVariants.{Exit, Trap as Trapped, Illegal, Outside}
use Rattle.space.specs.declared.program.Program.{Program}
use Rattle.space.specs.Reports.{ListedCall, Read, Write, Close, AnswerValue, Report, Given, Gives, Fails, given}
use Rattle.runs.specs.Prelude.{Outcome, Goes, Asks, Ends, run}
use Rattle.ppc_isa.specs.declared.instr.Instr.{Instr}
use Rattle.ppc_isa.specs.declared.instr.Instr.TheVariants.{Immediate, LogicImmediate, Load, Store, LoadUpdate, StoreUpdate, Multiple, TrapImmediate, CompareImmediate, Rotate, Branch, BranchConditional, SystemCall, Arithmetic, ArithmeticUnary, Logic, ShiftImmediate, LogicUnary, Compare, Trap, MoveFromCr, MoveToCr, MoveFromSpr, MoveToSpr, Sync, LoadIndexed, StoreIndexed, LoadIndexedUpdate, StoreIndexedUpdate, MoveCrField, CrLogic, Isync, BranchRegister}
use Rattle.ppc_isa.specs.declared.instr.ImmediateOp.{ImmediateOp}
use Rattle.ppc_isa.specs.declared.instr.ImmediateOp.TheVariants.{Addis}
use Rattle.ppc_isa.specs.declared.instr.LogicImmediateOp.{LogicImmediateOp}
use Rattle.ppc_isa.specs.declared.instr.LogicImmediateOp.TheVariants.{Oris, Xoris, Andis}
use Rattle.ppc_isa.specs.declared.instr.CompareImmediateOp.{CompareImmediateOp}
use Rattle.ppc_isa.specs.declared.instr.CompareImmediateOp.TheVariants.{Cmpi, Cmpli}
use Rattle.ppc_isa.specs.declared.instr.MultipleOp.TheVariants.{Lmw, Stmw}
use Rattle.ppc_isa.specs.declared.instr.RotateOp.{RotateOp}
use Rattle.ppc_isa.specs.declared.instr.RotateOp.TheVariants.{Rlwnm}
use Rattle.ppc_isa.specs.declared.instr.BranchRegisterOp.{BranchRegisterOp}
use Rattle.ppc_isa.specs.declared.instr.BranchRegisterOp.TheVariants.{Bclr, Bcctr}
use Rattle.ppc_isa.specs.Locations.{immediate_carries, immediate_records, carry_out, unary_carry, logic_immediate_records, logic_carries}
use Rattle.ppc_isa.specs.Effect.{GuestValues, Effect, Access, NoAccess, LoadAccess, StoreAccess}
use Rattle.ppc_isa.specs.Rows.{guest_row}
use Rattle.word_kit.specs.Prelude.{sign_extended}
use Rattle.machines.specs.Memory.{update, load_big, store_big, block, put_block, each_byte, Rights, Code, code_byte, rights_of, code_of, first_bytes}

-- A value for each location, the next instruction's address, and memory. Locations are numbers: GPR g is g, LR 32,
-- CTR 33, CR field f is 34 + f with LT 8, GT 4, EQ 2 and SO 1, and CA, SO, OV, XC of XER are 42 to 45.
pub record Guest : Type 0 where
  pub locs : ℕ → ℕ
  pub next : ℕ
  pub bytes : ℕ → ℕ

abbrev pub lr : ℕ
lr = 32

abbrev pub ctr : ℕ
ctr = 33

abbrev pub cr_field : ℕ → ℕ
cr_field f = 34 + f

-- CR as a word, field 0 in its highest bits (Book I, 2.3.1)
abbrev pub cr_word : (ℕ → ℕ) → ℕ
cr_word locs = locs 34 * 2 ^ 28 + locs 35 * 2 ^ 24 + locs 36 * 2 ^ 20 + locs 37 * 2 ^ 16 + locs 38 * 2 ^ 12 + locs 39 * 2 ^ 8 + locs 40 * 2 ^ 4 + locs 41

-- XER as a word: SO, OV and CA are its bits 0 to 2, XC its bits 25 to 31 (Book I, 3.2.2)
abbrev pub xer_word : (ℕ → ℕ) → ℕ
xer_word locs = locs 43 * 2 ^ 31 + locs 44 * 2 ^ 30 + locs 42 * 2 ^ 29 + locs 45

-- CR with the fields of a word, and XER with its parts
abbrev pub put_cr : ℕ → (ℕ → ℕ) → ℕ → ℕ
put_cr cr locs x = cond (leb 34 x && ltb x 42) (cr / 16 ^ (41 - x) % 16) (locs x)

abbrev pub put_xer : ℕ → (ℕ → ℕ) → ℕ → ℕ
put_xer xer locs = update (update (update (update locs 43 (xer / 2 ^ 31 % 2)) 44 (xer / 2 ^ 30 % 2)) 42 (xer / 2 ^ 29 % 2)) 45 (xer % 2 ^ 7)

-- The values that an instruction reads, and 0 for what it has no field for. This is the register of bits 11 to 15.
abbrev pub value_a : Instr → (ℕ → ℕ) → ℕ
value_a (Immediate op d a imm) locs = locs a
value_a (LogicImmediate op s a imm) locs = locs a
value_a (Load op d a imm) locs = locs a
value_a (Store op s a imm) locs = locs a
value_a (LoadUpdate op d a imm) locs = locs a
value_a (StoreUpdate op s a imm) locs = locs a
value_a (Multiple op d a imm) locs = locs a
value_a (TrapImmediate to a imm) locs = locs a
value_a (CompareImmediate op field a imm) locs = locs a
value_a (Rotate op s a by mask_begin mask_end records) locs = locs a
value_a (Arithmetic op d a b records) locs = locs a
value_a (ArithmeticUnary op d a records) locs = locs a
value_a (Logic op s a b records) locs = locs a
value_a (ShiftImmediate s a by records) locs = locs a
value_a (LogicUnary op s a records) locs = locs a
value_a (Compare op field a b) locs = locs a
value_a (Trap to a b) locs = locs a
value_a (LoadIndexed op d a b) locs = locs a
value_a (StoreIndexed op s a b) locs = locs a
value_a (LoadIndexedUpdate op d a b) locs = locs a
value_a (StoreIndexedUpdate op s a b) locs = locs a
value_a _ locs = 0

-- the word that stands for an immediate of 16 bits: it is read as signed, as unsigned, or moved to the upper half
abbrev pub immediate_word : ImmediateOp → ℕ → ℕ
immediate_word Addis imm = 65536 * imm
immediate_word _ imm = sign_extended 16 imm

abbrev pub logic_word : LogicImmediateOp → ℕ → ℕ
logic_word Oris imm = 65536 * imm
logic_word Xoris imm = 65536 * imm
logic_word Andis imm = 65536 * imm
logic_word _ imm = imm

abbrev pub compare_word : CompareImmediateOp → ℕ → ℕ
compare_word Cmpi imm = sign_extended 16 imm
compare_word Cmpli imm = imm

-- of the rotates rlwnm alone has a register in bits 16 to 20, the others have the count
abbrev pub rotate_register : RotateOp → ℕ → (ℕ → ℕ) → ℕ
rotate_register Rlwnm by locs = locs by
rotate_register _ by locs = 0

-- the register of bits 16 to 20, or the immediate
abbrev pub value_b : Instr → (ℕ → ℕ) → ℕ
value_b (Immediate op d a imm) locs = immediate_word op imm
value_b (LogicImmediate op s a imm) locs = logic_word op imm
value_b (Load op d a imm) locs = sign_extended 16 imm
value_b (Store op s a imm) locs = sign_extended 16 imm
value_b (LoadUpdate op d a imm) locs = sign_extended 16 imm
value_b (StoreUpdate op s a imm) locs = sign_extended 16 imm
value_b (Multiple op d a imm) locs = sign_extended 16 imm
value_b (TrapImmediate to a imm) locs = sign_extended 16 imm
value_b (CompareImmediate op field a imm) locs = compare_word op imm
value_b (Rotate op s a by mask_begin mask_end records) locs = rotate_register op by locs
value_b (Arithmetic op d a b records) locs = locs b
value_b (Logic op s a b records) locs = locs b
value_b (Compare op field a b) locs = locs b
value_b (Trap to a b) locs = locs b
value_b (LoadIndexed op d a b) locs = locs b
value_b (StoreIndexed op s a b) locs = locs b
value_b (LoadIndexedUpdate op d a b) locs = locs b
value_b (StoreIndexedUpdate op s a b) locs = locs b
value_b _ locs = 0

-- the register of bits 6 to 10: rS, or rD before the instruction
abbrev pub value_s : Instr → (ℕ → ℕ) → ℕ
value_s (Immediate op d a imm) locs = locs d
value_s (LogicImmediate op s a imm) locs = locs s
value_s (Load op d a imm) locs = locs d
value_s (Store op s a imm) locs = locs s
value_s (LoadUpdate op d a imm) locs = locs d
value_s (StoreUpdate op s a imm) locs = locs s
value_s (Multiple op d a imm) locs = locs d
value_s (Rotate op s a by mask_begin mask_end records) locs = locs s
value_s (Arithmetic op d a b records) locs = locs d
value_s (ArithmeticUnary op d a records) locs = locs d
value_s (Logic op s a b records) locs = locs s
value_s (ShiftImmediate s a by records) locs = locs s
value_s (LogicUnary op s a records) locs = locs s
value_s (MoveFromCr d) locs = locs d
value_s (MoveToCr s mask) locs = locs s
value_s (MoveFromSpr d spr) locs = locs d
value_s (MoveToSpr s spr) locs = locs s
value_s (LoadIndexed op d a b) locs = locs d
value_s (StoreIndexed op s a b) locs = locs s
value_s (LoadIndexedUpdate op d a b) locs = locs d
value_s (StoreIndexedUpdate op s a b) locs = locs s
value_s _ locs = 0

abbrev pub guest_values : Instr → ℕ → (ℕ → ℕ) → GuestValues
guest_values i loaded locs = record {
  a = value_a i locs;
  b = value_b i locs;
  s = value_s i locs;
  cr = cr_word locs;
  xer = xer_word locs;
  lr = locs lr;
  ctr = locs ctr;
  loaded = loaded;
}

-- what the access loads, its highest byte first
abbrev pub loaded_by : Access → ℕ → ℕ → (ℕ → ℕ) → ℕ
loaded_by NoAccess width address bytes = 0
loaded_by LoadAccess width address bytes = load_big width address bytes
loaded_by StoreAccess width address bytes = 0

-- where and how an instruction loads doesn't depend on what it loads
abbrev pub loaded_in : Effect → (ℕ → ℕ) → ℕ
loaded_in e bytes = loaded_by e.kind e.width e.address bytes

-- the effect of an instruction in a state
abbrev pub effect_of : Instr → Guest → Effect
effect_of i g = guest_row i (guest_values i (loaded_in (guest_row i (guest_values i 0 g.locs)) g.bytes) g.locs)

-- the address behind an instruction
abbrev pub behind : ℕ → ℕ
behind at = (at + 4) % 2 ^ 32

-- A branch's target: its field of `len` bits with two zeros behind it, read as signed, from the branch's own address
-- unless AA (Book I, 2.4).
abbrev pub branch_target : ℕ → ℕ → Bool → ℕ → ℕ
branch_target len field absolute at = cond absolute (sign_extended (len + 2) (4 * field)) ((at + sign_extended (len + 2) (4 * field)) % 2 ^ 32)

-- the next instruction, with the locations changed, and with one of them
abbrev pub at_next : (ℕ → ℕ) → Guest → Guest
at_next locs g = record g { locs = locs; next = behind g.next }

abbrev pub writes : ℕ → ℕ → Guest → Guest
writes x v g = at_next (update g.locs x v) g

-- a form that records puts CR, one that carries puts XER
abbrev pub puts_cr : Bool → Effect → (ℕ → ℕ) → ℕ → ℕ
puts_cr records e locs = cond records (put_cr e.cr locs) locs

abbrev pub puts_xer : Bool → Effect → (ℕ → ℕ) → ℕ → ℕ
puts_xer carries e locs = cond carries (put_xer e.xer locs) locs

-- one result, and what the form puts beside it
abbrev pub results : Bool → Bool → ℕ → ℕ → Effect → (ℕ → ℕ) → ℕ → ℕ
results carries records x v e locs = puts_xer carries e (puts_cr records e (update locs x v))

-- XER, LR or CTR, by its number (Book I, 3.3.17)
abbrev pub put_special : ℕ → Effect → (ℕ → ℕ) → ℕ → ℕ
put_special spr e locs = cond (eqb spr 1) (put_xer e.xer locs) (cond (eqb spr 8) (update locs lr e.lr) (update locs ctr e.ctr))

-- lmw: the registers from d on get the words from an address on, and stmw puts them there (Book I, 3.3.6)
abbrev pub put_loaded : ℕ → ℕ → (ℕ → ℕ) → (ℕ → ℕ) → ℕ → ℕ
put_loaded d address bytes locs x = cond (leb d x && ltb x 32) (load_big 4 (address + 4 * (x - d)) bytes) (locs x)

unfoldable pub store_registers : ℕ → ℕ → ℕ → (ℕ → ℕ) → (ℕ → ℕ) → ℕ → ℕ
store_registers zero s address locs bytes = bytes
store_registers (suc n) s address locs bytes = store_registers n (s + 1) (address + 4) locs (store_big 4 address (locs s) bytes)

-- LR gets the address behind a branch with LK = 1
abbrev pub linked : Bool → ℕ → (ℕ → ℕ) → ℕ → ℕ
linked link at locs = cond link (update locs lr (behind at)) locs

-- where bclr and bcctr go: the register's word, which they read before LR is written, without its two low bits
abbrev pub register_target : BranchRegisterOp → (ℕ → ℕ) → ℕ
register_target Bclr locs = 4 * (locs lr / 4)
register_target Bcctr locs = 4 * (locs ctr / 4)

-- a branch to a target where it is taken
abbrev pub branches : (ℕ → ℕ) → Bool → ℕ → Guest → Guest
branches locs taken target g = record g { locs = locs; next = cond taken target (behind g.next) }

-- CR field 0 with SO cleared or set
abbrev pub without_so : ℕ → ℕ
without_so field = 2 * (field / 2)

abbrev pub with_so : ℕ → ℕ
with_so field = 2 * (field / 2) + 1

-- Linux gives a result in r3 with CR0's SO cleared, an error's number there with it set.
abbrev pub after_guest_call : Given → Guest → Guest
after_guest_call (Gives result to_buffer) g = record {
  locs = update (update g.locs 3 result) (cr_field 0) (without_so (g.locs (cr_field 0)));
  next = behind g.next;
  bytes = put_block (g.locs 4) to_buffer g.bytes;
}
after_guest_call (Fails error) g = record {
  locs = update (update g.locs 3 error) (cr_field 0) (with_so (g.locs (cr_field 0)));
  next = behind g.next;
  bytes = g.bytes;
}

abbrev pub guest_asks : ListedCall → Guest → Outcome Guest
guest_asks call g = Asks call (λ answer. after_guest_call (given call answer) g)

module _ (rights : Rights) where
  -- sc: the number is in r0, the operands are in r3, r4, r5. 1 is exit and 234 exit_group, 3 read, 4 write, 6 close;
  -- every other number has error 38, ENOSYS. A buffer that isn't held ends the run.
  abbrev pub guest_system_call : Guest → Outcome Guest
  guest_system_call g =
      let number = g.locs 0 in
      let fd = g.locs 3 in
      let buffer = g.locs 4 in
      let count = g.locs 5 in
      cond (eqb number 1 || eqb number 234) (Ends (Exit fd)) (
      cond (eqb number 3) (cond (each_byte rights.writable count buffer) (guest_asks (Read fd count) g) (Ends Outside)) (
      cond (eqb number 4) (cond (each_byte rights.held count buffer) (guest_asks (Write fd (block count buffer g.bytes)) g) (Ends Outside)) (
      cond (eqb number 6) (guest_asks (Close fd) g) (
      Goes (after_guest_call (Fails 38) g)))))

  -- a load, and a store, each of whose bytes is inside; else nothing is changed
  abbrev pub load_outcome : (ℕ → ℕ) → Effect → Guest → Outcome Guest
  load_outcome locs e g = cond (each_byte rights.held e.width e.address) (Goes (at_next locs g)) (Ends Outside)

  abbrev pub store_outcome : (ℕ → ℕ) → (ℕ → ℕ) → Effect → Guest → Outcome Guest
  store_outcome bytes locs e g = cond (each_byte rights.writable e.width e.address) (Goes (record (at_next locs g) { bytes = bytes })) (Ends Outside)

  -- what the machine does with an instruction and its effect
  abbrev pub guest_acts : Instr → Effect → Guest → Outcome Guest
  guest_acts (Immediate op d a imm) e g = Goes (at_next (results (immediate_carries op) (immediate_records op) d e.d e g.locs) g)
  guest_acts (LogicImmediate op s a imm) e g = Goes (at_next (results false (logic_immediate_records op) a e.a e g.locs) g)
  guest_acts (Load op d a imm) e g = load_outcome (update g.locs d e.d) e g
  guest_acts (Store op s a imm) e g = store_outcome (store_big e.width e.address e.stored g.bytes) g.locs e g
  guest_acts (LoadUpdate op d a imm) e g = load_outcome (update (update g.locs d e.d) a e.a) e g
  guest_acts (StoreUpdate op s a imm) e g = store_outcome (store_big e.width e.address e.stored g.bytes) (update g.locs a e.a) e g
  guest_acts (Multiple Lmw d a imm) e g = load_outcome (put_loaded d e.address g.bytes g.locs) e g
  guest_acts (Multiple Stmw s a imm) e g = store_outcome (store_registers (32 - s) s e.address g.locs g.bytes) g.locs e g
  guest_acts (TrapImmediate to a imm) e g = cond e.taken (Ends Trapped) (Goes (at_next g.locs g))
  guest_acts (CompareImmediate op field a imm) e g = Goes (at_next (put_cr e.cr g.locs) g)
  guest_acts (Rotate op s a by mask_begin mask_end records) e g = Goes (at_next (results false records a e.a e g.locs) g)
  guest_acts (Branch target absolute link) e g = Goes (branches (linked link g.next g.locs) e.taken (branch_target 24 target absolute g.next) g)
  guest_acts (BranchConditional bo bi target absolute link) e g = Goes (branches (linked link g.next (update g.locs ctr e.ctr)) e.taken (branch_target 14 target absolute g.next) g)
  guest_acts SystemCall e g = guest_system_call g
  guest_acts (Arithmetic op d a b records) e g = Goes (at_next (results (carry_out op) records d e.d e g.locs) g)
  guest_acts (ArithmeticUnary op d a records) e g = Goes (at_next (results (unary_carry op) records d e.d e g.locs) g)
  guest_acts (Logic op s a b records) e g = Goes (at_next (results (logic_carries op) records a e.a e g.locs) g)
  guest_acts (ShiftImmediate s a by records) e g = Goes (at_next (results true records a e.a e g.locs) g)
  guest_acts (LogicUnary op s a records) e g = Goes (at_next (results false records a e.a e g.locs) g)
  guest_acts (Compare op field a b) e g = Goes (at_next (put_cr e.cr g.locs) g)
  guest_acts (Trap to a b) e g = cond e.taken (Ends Trapped) (Goes (at_next g.locs g))
  guest_acts (MoveFromCr d) e g = Goes (writes d e.d g)
  guest_acts (MoveToCr s mask) e g = Goes (at_next (put_cr e.cr g.locs) g)
  guest_acts (MoveFromSpr d spr) e g = Goes (writes d e.d g)
  guest_acts (MoveToSpr s spr) e g = Goes (at_next (put_special spr e g.locs) g)
  guest_acts Sync e g = Goes (at_next g.locs g)
  guest_acts (LoadIndexed op d a b) e g = load_outcome (update g.locs d e.d) e g
  guest_acts (StoreIndexed op s a b) e g = store_outcome (store_big e.width e.address e.stored g.bytes) g.locs e g
  guest_acts (LoadIndexedUpdate op d a b) e g = load_outcome (update (update g.locs d e.d) a e.a) e g
  guest_acts (StoreIndexedUpdate op s a b) e g = store_outcome (store_big e.width e.address e.stored g.bytes) (update g.locs a e.a) e g
  guest_acts (MoveCrField to from) e g = Goes (at_next (put_cr e.cr g.locs) g)
  guest_acts (CrLogic op d a b) e g = Goes (at_next (put_cr e.cr g.locs) g)
  guest_acts Isync e g = Goes (at_next g.locs g)
  guest_acts (BranchRegister op bo bi link) e g = Goes (branches (linked link g.next (update g.locs ctr e.ctr)) e.taken (register_target op g.locs) g)

  abbrev pub guest_executes : Option Instr → Guest → Outcome Guest
  guest_executes None g = Ends Illegal
  guest_executes (Some i) g = guest_acts i (effect_of i g) g

-- a code word is an aligned word all of whose bytes lie in the code
abbrev pub is_code_word : Code → ℕ → Bool
is_code_word code a = eqb (a % 4) 0 && leb code.at a && leb (a + 4) (code.at + length code.bytes)

-- its highest byte stands first
abbrev pub word_of_code : Code → ℕ → ℕ
word_of_code code a = code_byte code a * 2 ^ 24 + code_byte code (a + 1) * 2 ^ 16 + code_byte code (a + 2) * 2 ^ 8 + code_byte code (a + 3)

-- one step: the word at the next address is fetched, read and executed
abbrev pub guest_step : Rights → Code → (ℕ → Option Instr) → Guest → Outcome Guest
guest_step rights code reading g = cond (is_code_word code g.next) (guest_executes rights (reading (word_of_code code g.next)) g) (Ends Outside)

-- r1 at the start: the end of the stack segment, less 64 bytes
abbrev pub stack_start : ℕ
stack_start = 0x7F0FFFC0

abbrev pub guest_start : Program → Guest
guest_start p = record { locs = update (λ x. 0) 1 stack_start; next = p.entry; bytes = first_bytes p.segments }

-- the guest of a program
abbrev pub guest_machine : (ℕ → Option Instr) → Program → Guest → Outcome Guest
guest_machine reading p = guest_step (rights_of p) (code_of p) reading

-- what the program reports after n steps, with these answers to its calls
abbrev pub guest_run : (ℕ → Option Instr) → Program → List AnswerValue → ℕ → Report
guest_run reading p answers n = run (guest_machine reading p) n answers (guest_start p)
