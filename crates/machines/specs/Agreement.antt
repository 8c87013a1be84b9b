-- When a translation agrees with its program.
use Rattle.std.specs.Prelude.{◌≡◌, ℕ, Bool, true, not, ◌&&◌, eqb, cond, List, Option, Some, None}
use Rattle.space.specs.declared.program.Program.{Program}
use Rattle.runs.specs.Prelude.{Outcome, AgreesFrom, Anywhere}
use Rattle.ppc_isa.specs.declared.instr.Instr.{Instr}
use Rattle.ia_codec.specs.declared.op.Op.{Op}
use Rattle.ia_codec.specs.declared.op.Op.TheVariants.{AluTo, AluFrom, AluImm, TestReg, TestImm, Unary, Imul, MovTo, MovFrom, MovImm, MovToImm, MovHalfTo, MovByteTo, MovByteFrom, Shift, ShiftByCl, Lea, Extend, Bswap, Set, Cmov, Bsr, Cdq, Jcc, Jmp, JmpTo, Int80, Int3, Ud2}
use Rattle.ia_codec.specs.Prelude.{eax, ecx, edx}
use Rattle.machines.specs.Memory.{each_byte, Rights, rights_of, Code, is_code, code_of}
use Rattle.ppc_isa.specs.Legal.{ReadsWords}
use Rattle.machines.specs.Readings.{Fetched, ReadsOps}
use Rattle.machines.specs.Guest.{guest_machine, guest_start}
use Rattle.machines.specs.Host.{Choice, Core, Host, Place, Register, Memory, place_of, extend_size, op_bytes, host_step, host_machine, host_start}

module _ (code : Code) where
  -- no byte of the code is among these
  abbrev pub is_apart : Place → Bool
  is_apart (Register r) = true
  is_apart (Memory size address) = each_byte (λ a. not (is_code code a)) size address

  -- no byte of the code is among what an op reads as data, or among what it writes to a file
  abbrev pub reads_apart : Op → Core → Bool
  reads_apart (AluTo op to from) core = is_apart (place_of 4 to core.regs)
  reads_apart (AluFrom op to from) core = is_apart (place_of 4 from core.regs)
  reads_apart (AluImm op to imm) core = is_apart (place_of 4 to core.regs)
  reads_apart (TestReg a b) core = is_apart (place_of 4 a core.regs)
  reads_apart (TestImm a imm) core = is_apart (place_of 4 a core.regs)
  reads_apart (Unary op on) core = is_apart (place_of 4 on core.regs)
  reads_apart (Imul to from) core = is_apart (place_of 4 from core.regs)
  reads_apart (MovFrom to from) core = is_apart (place_of 4 from core.regs)
  reads_apart (MovByteFrom to from) core = is_apart (place_of 1 from core.regs)
  reads_apart (Shift op to by) core = is_apart (place_of 4 to core.regs)
  reads_apart (ShiftByCl op to) core = is_apart (place_of 4 to core.regs)
  reads_apart (Extend op to from) core = is_apart (place_of (extend_size op) from core.regs)
  reads_apart (Cmov condition to from) core = is_apart (place_of 4 from core.regs)
  reads_apart (Bsr to from) core = is_apart (place_of 4 from core.regs)
  reads_apart (JmpTo to) core = is_apart (place_of 4 to core.regs)
  reads_apart Int80 core = cond (eqb (core.regs eax) 4) (is_apart (Memory (core.regs edx) (core.regs ecx))) true
  -- these read no memory: moves to memory, lea, setcc, jumps by an offset, and what works on registers alone
  reads_apart (MovTo to from) core = true
  reads_apart (MovImm to imm) core = true
  reads_apart (MovToImm to imm) core = true
  reads_apart (MovHalfTo to from) core = true
  reads_apart (MovByteTo to from) core = true
  reads_apart (Lea to from) core = true
  reads_apart (Bswap reg) core = true
  reads_apart (Set condition to) core = true
  reads_apart Cdq core = true
  reads_apart (Jcc condition rel) core = true
  reads_apart (Jmp rel) core = true
  reads_apart Int3 core = true
  reads_apart Ud2 core = true

  abbrev pub fetched_apart : Option Fetched → Core → Bool
  fetched_apart None core = true
  fetched_apart (Some f) core = reads_apart f.op core

  -- the step from this state reads no byte of the code but as an op, and writes none to a file
  abbrev pub IsClean : (List ℕ → Option Fetched) → Host → Type 0
  IsClean reading h = fetched_apart (reading (op_bytes code h.eip)) h.core ≡ true

-- The IA-32 program Q agrees with the PowerPC program P: whatever the answers to the calls, whatever the processor
-- chooses where the manual leaves it a choice, and for every n there are at most 256 (n + 1) clean steps of Q, at which
-- its report agrees with that of P after n.
abbrev pub AgreesWith : Program → Program → Type 0
AgreesWith P Q =
    (words : ℕ → Option Instr) (ops : List ℕ → Option Fetched) → ReadsWords words → ReadsOps ops →
    (choices : List Choice) → AgreesFrom (guest_machine words P) (host_machine ops Q) (IsClean (code_of Q) ops) (guest_start P) (host_start Q choices)

-- the rights with which no byte of the code is read as data
abbrev pub without : Code → Rights → Rights
without code rights = record { held = λ a. rights.held a && not (is_code code a); writable = rights.writable }

-- the host of a program with these rights
abbrev pub narrow_machine : (List ℕ → Option Fetched) → Program → Host → Outcome Host
narrow_machine ops p = host_step (without (code_of p) (rights_of p)) (code_of p) ops

-- a clean step is the same where no byte of the code can be read as data
abbrev pub CleanReadsNoCode : Type 0
CleanReadsNoCode =
    (ops : List ℕ → Option Fetched) (Q : Program) (h : Host) → IsClean (code_of Q) ops h → narrow_machine ops Q h ≡ host_machine ops Q h

-- Q agrees with P also where no byte of its code can be read as data. That its steps are clean needs no word here.
abbrev pub AgreesNarrowly : Program → Program → Type 0
AgreesNarrowly P Q =
    (words : ℕ → Option Instr) (ops : List ℕ → Option Fetched) → ReadsWords words → ReadsOps ops →
    (choices : List Choice) → AgreesFrom (guest_machine words P) (narrow_machine ops Q) Anywhere (guest_start P) (host_start Q choices)
