-- The host: a profile of IA-32 (Intel SDM, volume 2) with the calls of Linux.
use Rattle.std.specs.Prelude.{ℕ, ◌+◌, ◌-◌, ◌*◌, ◌/◌, ◌%◌, ◌^◌, Bool, true, false, cond, ◌||◌, eqb, ltb, List, get_or, take, drop, Option, Some, None}
use Rattle.space.specs.declared.call.End.TheVariants.{Exit, Trap, Illegal, Outside, DivideFault}
use Rattle.space.specs.declared.program.Program.{Program}
use Rattle.space.specs.Reports.{ListedCall, Read, Write, Close, AnswerValue, Report, Given, Gives, Fails, given}
use Rattle.runs.specs.Prelude.{Outcome, Goes, Asks, Ends, run}
use Rattle.ia_codec.specs.declared.op.Op.{Op}
use Rattle.ia_codec.specs.declared.op.Op.TheVariants.{AluTo, AluFrom, AluImm, TestReg, TestImm, Unary, Imul, MovTo, MovFrom, MovImm, MovToImm, MovHalfTo, MovByteTo, MovByteFrom, Shift, ShiftByCl, Lea, Extend, Bswap, Set, Cmov, Bsr, Cdq, Jcc, Jmp, JmpTo, Int80, Int3, Ud2}
use Rattle.ia_codec.specs.declared.op.AluOp.{AluOp}
use Rattle.ia_codec.specs.declared.op.AluOp.TheVariants.{Add, Or, Adc, Sbb, And, Sub, Xor, Cmp}
use Rattle.ia_codec.specs.declared.op.UnaryOp.{UnaryOp}
use Rattle.ia_codec.specs.declared.op.UnaryOp.TheVariants.{Not, Neg, Div, Idiv}
use Rattle.ia_codec.specs.declared.op.ExtendOp.{ExtendOp}
use Rattle.ia_codec.specs.declared.op.ExtendOp.TheVariants.{MovzxByte, MovzxHalf, MovsxByte, MovsxHalf}
use Rattle.ia_codec.specs.declared.op.Operand.{Operand}
use Rattle.ia_codec.specs.declared.op.Operand.TheVariants.{Reg, Abs, Base, Pair}
use Rattle.ia_codec.specs.Prelude.{Flags, HostValues, HostEffect, host_row, eax, ecx, edx, ebx}
use Rattle.machines.specs.Memory.{update, load, store, block, put_block, each_byte, Rights, Code, is_code, rights_of, code_of, first_bytes}
use Rattle.machines.specs.Readings.{Fetched}

-- what the processor chooses in one step where the manual leaves a result or flags undefined: CF is bit 0 of the
-- flags, ZF bit 1, SF bit 2, OF bit 3
pub record Choice : Type 0 where
  pub value : ℕ
  pub flags : ℕ

-- registers by number, flags and memory
pub record Core : Type 0 where
  pub regs : ℕ → ℕ
  pub flags : Flags
  pub bytes : ℕ → ℕ

-- the state: its core, the next op's address, and the choices of the steps still to come
pub record Host : Type 0 where
  pub core : Core
  pub eip : ℕ
  pub choices : List Choice

abbrev pub no_choice : Choice
no_choice = record { value = 0; flags = 0 }

-- the k-th choice; past the list's end each is 0
abbrev pub choice_at : List Choice → ℕ → Choice
choice_at choices k = get_or choices k no_choice

abbrev pub chosen_word : Choice → ℕ
chosen_word c = c.value % 2 ^ 32

abbrev pub chosen_flags : Choice → Flags
chosen_flags c = record {
  cf = eqb (c.flags % 2) 1;
  zf = eqb (c.flags / 2 % 2) 1;
  sf = eqb (c.flags / 4 % 2) 1;
  of = eqb (c.flags / 8 % 2) 1;
}

-- a register by its number, or so many bytes from an address on
pub data Place : Type 0 where
  Register : (r : ℕ) → Place
  Memory : (size address : ℕ) → Place

-- an operand of so many bytes: volume 2, table 2-2 and 2-3
abbrev pub place_of : ℕ → Operand → (ℕ → ℕ) → Place
place_of size (Reg r) regs = Register r
place_of size (Abs d) regs = Memory size d
place_of size (Base b d) regs = Memory size ((regs b + d) % 2 ^ 32)
place_of size (Pair b x s d) regs = Memory size ((regs b + regs x * 2 ^ s + d) % 2 ^ 32)

-- the value at a place, and the core in which v stands there
abbrev pub value_at : Core → Place → ℕ
value_at core (Register r) = core.regs r
value_at core (Memory size address) = load size address core.bytes

abbrev pub put_at : Core → Place → ℕ → Core
put_at core (Register r) v = record core { regs = update core.regs r v }
put_at core (Memory size address) v = record core { bytes = store size address v core.bytes }

abbrev pub bind : {A B : Type 0} → Option A → (A → Option B) → Option B
bind None f = None
bind (Some a) f = f a

abbrev pub host_values : Choice → Core → ℕ → ℕ → HostValues
host_values c core x y = record { x = x; y = y; high = core.regs edx; flags = core.flags; free = chosen_word c; free_flags = chosen_flags c }

-- cmp has no result
abbrev pub has_result : AluOp → Bool
has_result Add = true
has_result Or = true
has_result Adc = true
has_result Sbb = true
has_result And = true
has_result Sub = true
has_result Xor = true
has_result Cmp = false

-- how many bytes movzx and movsx read
abbrev pub extend_size : ExtendOp → ℕ
extend_size MovzxByte = 1
extend_size MovsxByte = 1
extend_size MovzxHalf = 2
extend_size MovsxHalf = 2

-- the address of a place in memory, which lea gives
abbrev pub address_in : Place → ℕ
address_in (Register r) = 0
address_in (Memory size address) = address

-- a byte, as it goes to an operand: in al, cl or dl it leaves the other bytes of the register as they are
abbrev pub byte_for : Operand → Core → ℕ → ℕ
byte_for (Reg r) core b = 256 * (core.regs r / 256) + b
byte_for _ core b = b

-- products and divisions: both halves in eax and edx
abbrev pub puts_both : HostEffect → Core → Core
puts_both e core = record core { regs = update (update core.regs eax e.result) edx e.high; flags = e.flags }

module _ (rights : Rights) where
  -- an access that isn't held gives None
  abbrev pub reads : Core → Place → Option ℕ
  reads core (Register r) = Some (core.regs r)
  reads core (Memory size address) = cond (each_byte rights.held size address) (Some (load size address core.bytes)) None

  abbrev pub puts : Core → Place → ℕ → Option Core
  puts core (Register r) v = Some (put_at core (Register r) v)
  puts core (Memory size address) v = cond (each_byte rights.writable size address) (Some (put_at core (Memory size address) v)) None

  -- an op's effect: its flags, and its result at a place where it has one
  abbrev pub leaves : Bool → HostEffect → Place → Core → Option Core
  leaves true e place core = puts (record core { flags = e.flags }) place e.result
  leaves false e place core = Some (record core { flags = e.flags })

  -- an op on the values x and y whose result goes to a place
  abbrev pub gives_to : Op → Choice → Bool → Place → Core → ℕ → ℕ → Option Core
  gives_to op c result place core x y = leaves result (host_row op (host_values c core x y)) place core

  -- an op that reads and writes its first operand
  abbrev pub changes : Op → Choice → Bool → Place → Core → Option ℕ → Option Core
  changes op c result place core y = bind (reads core place) (λ x. bind y (gives_to op c result place core x))

  -- an op that only writes its first operand
  abbrev pub sets : Op → Choice → Place → Core → Option ℕ → Option Core
  sets op c place core y = bind y (gives_to op c true place core 0)

  -- the same for an op whose result is one byte, of a register also
  abbrev pub sets_byte : Op → Choice → Operand → Core → Option ℕ → Option Core
  sets_byte op c to core y = bind y (λ y. puts core (place_of 1 to core.regs) (byte_for to core (host_row op (host_values c core 0 y)).result))

  -- an op on eax and its operand whose results go to eax and edx
  abbrev pub multiplies : Op → Choice → Core → Option ℕ → Option Core
  multiplies op c core y = bind y (λ y. Some (puts_both (host_row op (host_values c core (core.regs eax) y)) core))

  -- not and neg change their operand; the others are products and divisions
  abbrev pub unary_does : UnaryOp → Operand → Choice → Core → Option Core
  unary_does Not on c core = sets (Unary Not on) c (place_of 4 on core.regs) core (reads core (place_of 4 on core.regs))
  unary_does Neg on c core = sets (Unary Neg on) c (place_of 4 on core.regs) core (reads core (place_of 4 on core.regs))
  unary_does op on c core = multiplies (Unary op on) c core (reads core (place_of 4 on core.regs))

  -- what an op does that is no jump, no call and no end of the run; None where an access isn't held
  abbrev pub does : Op → Choice → Core → Option Core
  does (AluTo op to from) c core = changes (AluTo op to from) c (has_result op) (place_of 4 to core.regs) core (Some (core.regs from))
  does (AluFrom op to from) c core = changes (AluFrom op to from) c (has_result op) (Register to) core (reads core (place_of 4 from core.regs))
  does (AluImm op to imm) c core = changes (AluImm op to imm) c (has_result op) (place_of 4 to core.regs) core (Some imm)
  does (TestReg a b) c core = changes (TestReg a b) c false (place_of 4 a core.regs) core (Some (core.regs b))
  does (TestImm a imm) c core = changes (TestImm a imm) c false (place_of 4 a core.regs) core (Some imm)
  does (Unary op on) c core = unary_does op on c core
  does (Imul to from) c core = changes (Imul to from) c true (Register to) core (reads core (place_of 4 from core.regs))
  does (MovTo to from) c core = sets (MovTo to from) c (place_of 4 to core.regs) core (Some (core.regs from))
  does (MovFrom to from) c core = sets (MovFrom to from) c (Register to) core (reads core (place_of 4 from core.regs))
  does (MovImm to imm) c core = sets (MovImm to imm) c (Register to) core (Some imm)
  does (MovToImm to imm) c core = sets (MovToImm to imm) c (place_of 4 to core.regs) core (Some imm)
  does (MovHalfTo to from) c core = sets (MovHalfTo to from) c (place_of 2 to core.regs) core (Some (core.regs from))
  does (MovByteTo to from) c core = sets (MovByteTo to from) c (place_of 1 to core.regs) core (Some (core.regs from))
  does (MovByteFrom to from) c core = sets_byte (MovByteFrom to from) c (Reg to) core (reads core (place_of 1 from core.regs))
  does (Shift op to by) c core = changes (Shift op to by) c true (place_of 4 to core.regs) core (Some by)
  does (ShiftByCl op to) c core = changes (ShiftByCl op to) c true (place_of 4 to core.regs) core (Some (core.regs ecx % 2 ^ 8))
  does (Lea to from) c core = sets (Lea to from) c (Register to) core (Some (address_in (place_of 4 from core.regs)))
  does (Extend op to from) c core = sets (Extend op to from) c (Register to) core (reads core (place_of (extend_size op) from core.regs))
  does (Bswap reg) c core = sets (Bswap reg) c (Register reg) core (Some (core.regs reg))
  does (Set condition to) c core = sets_byte (Set condition to) c to core (Some 0)
  does (Cmov condition to from) c core = changes (Cmov condition to from) c true (Register to) core (reads core (place_of 4 from core.regs))
  does (Bsr to from) c core = changes (Bsr to from) c true (Register to) core (reads core (place_of 4 from core.regs))
  does Cdq c core = Some (record core { regs = update core.regs edx (host_row Cdq (host_values c core (core.regs eax) 0)).high })
  does _ c core = None

  -- the state behind an op
  abbrev pub goes_to : ℕ → Host → Option Core → Outcome Host
  goes_to next h None = Ends Outside
  goes_to next h (Some core) = Goes (record { core = core; eip = next; choices = drop 1 h.choices })

  abbrev pub plain : Op → ℕ → Host → Outcome Host
  plain op next h = goes_to next h (does op (choice_at h.choices 0) h.core)

  -- a jump is counted from the next op's address
  abbrev pub jumps : Op → ℕ → ℕ → Host → Outcome Host
  jumps op rel next h = goes_to (cond (host_row op (host_values (choice_at h.choices 0) h.core 0 0)).holds ((next + rel) % 2 ^ 32) next) h (Some h.core)

  -- Linux gives a result in eax, and an error e as 2^32 - e.
  abbrev pub after_host_call : ℕ → Given → Host → Host
  after_host_call next (Gives result to_buffer) h = record {
    core = record h.core { regs = update h.core.regs eax result; bytes = put_block (h.core.regs ecx) to_buffer h.core.bytes };
    eip = next;
    choices = drop 1 h.choices;
  }
  after_host_call next (Fails error) h = record {
    core = record h.core { regs = update h.core.regs eax (2 ^ 32 - error) };
    eip = next;
    choices = drop 1 h.choices;
  }

  abbrev pub host_asks : ListedCall → ℕ → Host → Outcome Host
  host_asks call next h = Asks call (λ answer. after_host_call next (given call answer) h)

  -- int 0x80: the number is in eax, the operands are in ebx, ecx, edx. 1 is exit and 252 exit_group, 3 read, 4 write,
  -- 6 close; every other number has error 38, ENOSYS. A buffer that isn't held ends the run.
  abbrev pub host_system_call : ℕ → Host → Outcome Host
  host_system_call next h =
      let number = h.core.regs eax in
      let fd = h.core.regs ebx in
      let buffer = h.core.regs ecx in
      let count = h.core.regs edx in
      cond (eqb number 1 || eqb number 252) (Ends (Exit fd)) (
      cond (eqb number 3) (cond (each_byte rights.writable count buffer) (host_asks (Read fd count) next h) (Ends Outside)) (
      cond (eqb number 4) (cond (each_byte rights.held count buffer) (host_asks (Write fd (block count buffer h.core.bytes)) next h) (Ends Outside)) (
      cond (eqb number 6) (host_asks (Close fd) next h) (
      Goes (after_host_call next (Fails 38) h)))))

  -- a jump to the address that an operand holds
  abbrev pub jumps_to : Option ℕ → Host → Outcome Host
  jumps_to None h = Ends Outside
  jumps_to (Some target) h = goes_to target h (Some h.core)

  -- whether a division faults on its operand, which is read before
  abbrev pub faults_on : Op → Choice → Core → Option ℕ → Bool
  faults_on op c core None = false
  faults_on op c core (Some y) = (host_row op (host_values c core (core.regs eax) y)).faults

  -- a division that faults ends the run and changes nothing
  abbrev pub divides : Op → Operand → ℕ → Host → Outcome Host
  divides op on next h = cond (faults_on op (choice_at h.choices 0) h.core (reads h.core (place_of 4 on h.core.regs))) (Ends DivideFault) (plain op next h)

  abbrev pub unary_acts : UnaryOp → Operand → ℕ → Host → Outcome Host
  unary_acts Div on next h = divides (Unary Div on) on next h
  unary_acts Idiv on next h = divides (Unary Idiv on) on next h
  unary_acts op on next h = plain (Unary op on) next h

  -- what the machine does with an op, where the next one stands at `next`
  abbrev pub host_acts : Op → ℕ → Host → Outcome Host
  host_acts (Unary op on) next h = unary_acts op on next h
  host_acts (Jcc condition rel) next h = jumps (Jcc condition rel) rel next h
  host_acts (Jmp rel) next h = jumps (Jmp rel) rel next h
  host_acts (JmpTo to) next h = jumps_to (reads h.core (place_of 4 to h.core.regs)) h
  host_acts Int80 next h = host_system_call next h
  host_acts Int3 next h = Ends Trap
  host_acts Ud2 next h = Ends Illegal
  host_acts op next h = plain op next h

  abbrev pub host_executes : Option Fetched → Host → Outcome Host
  host_executes None h = Ends Illegal
  host_executes (Some f) h = host_acts f.op ((h.eip + f.len) % 2 ^ 32) h

-- the bytes from an address on to the end of the code, at most 12: the longest spelling has 11
abbrev pub op_bytes : Code → ℕ → List ℕ
op_bytes code a = take 12 (drop (a - code.at) code.bytes)

-- one step: the op at eip is fetched, read and executed
abbrev pub host_step : Rights → Code → (List ℕ → Option Fetched) → Host → Outcome Host
host_step rights code reading h = cond (is_code code h.eip) (host_executes rights (reading (op_bytes code h.eip)) h) (Ends Outside)

-- Choices 0 to 7 are the registers at the start, the flags of choice 8 the flags, and choice 9 + k is that of step k.
abbrev pub host_start : Program → List Choice → Host
host_start p choices = record {
  core = record {
    regs = λ r. cond (ltb r 8) (chosen_word (choice_at choices r)) 0;
    flags = chosen_flags (choice_at choices 8);
    bytes = first_bytes p.segments;
  };
  eip = p.entry;
  choices = drop 9 choices;
}

-- the host of a program
abbrev pub host_machine : (List ℕ → Option Fetched) → Program → Host → Outcome Host
host_machine reading p = host_step (rights_of p) (code_of p) reading

-- what the program reports after m steps, with these answers to its calls and these choices
abbrev pub host_run : (List ℕ → Option Fetched) → Program → List AnswerValue → List Choice → ℕ → Report
host_run reading p answers choices m = run (host_machine reading p) m answers (host_start p choices)
