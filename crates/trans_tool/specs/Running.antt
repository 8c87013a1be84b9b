-- What a run of `run FILE` did, by its cause.
use Rattle.std.specs.Prelude.{◌⊎◌, ℕ, List, [], Option}
use Rattle.machines.specs.Prelude.{Kind, PowerPc, Ia32, Program, End, Instr, ReadsWords, Fetched, ReadsOps, guest_machine, guest_start, host_machine, host_start}
use Rattle.space.specs.declared.call.End.TheVariants as ending
use Rattle.elf_load.specs.Prelude.{IsProgramOf}
use Rattle.runner.specs.Prelude.{Bytes, HasWholeRun, Streams, Told, Attended, AttendedPartly}
use Rattle.trans_tool.specs.Seen.{Outside, StreamsStand}
use Rattle.trans_tool.specs.Listing.{IsLoaded, EndsUnread}
use Rattle.trans_tool.specs.declared.cause.Cause.{Cause}
use Rattle.trans_tool.specs.declared.cause.Cause.TheVariants as cause

-- The run of a program's machine: its steps, with each undefined bit chosen as 0, and the registers of the host at the
-- start as well.
abbrev pub AttendedOn : Kind → (ℕ → Option Instr) → (List ℕ → Option Fetched) → Program → ℕ → Streams → Streams → Bytes → End → Type 0
AttendedOn PowerPc words ops program steps old new before end = Attended (guest_machine words program) (guest_start program) steps old new before end
AttendedOn Ia32 words ops program steps old new before end = Attended (host_machine ops program) (host_start program []) steps old new before end

-- the same for a run that asked for a read within these steps, for which bytes were taken in vain
abbrev pub PartlyOn : Kind → (ℕ → Option Instr) → (List ℕ → Option Fetched) → Program → ℕ → Streams → Streams → Bytes → Type 0
PartlyOn PowerPc words ops program steps old new before = AttendedPartly (guest_machine words program) (guest_start program) steps old new before
PartlyOn Ia32 words ops program steps old new before = AttendedPartly (host_machine ops program) (host_start program []) steps old new before

-- the program's run of so many steps ended so; what is said of bytes holds where all three streams tell them, and over
-- the one reading of words and that of bytes
abbrev pub HasRunTo : Program → ℕ → Streams → Streams → End → Type 0
HasRunTo program steps old new end =
    (words : ℕ → Option Instr) (ops : List ℕ → Option Fetched) (before : Bytes) → ReadsWords words → ReadsOps ops
    → Told old before → AttendedOn program.kind words ops program steps old new before end

-- the program's run asked for a read within these steps, and no more was made of it
abbrev pub HasRunPartly : Program → ℕ → Streams → Streams → Type 0
HasRunPartly program steps old new =
    (words : ℕ → Option Instr) (ops : List ℕ → Option Fetched) (before : Bytes) → ReadsWords words → ReadsOps ops
    → Told old before → PartlyOn program.kind words ops program steps old new before

-- some file gives the program
abbrev pub IsLoadable : Program → Type 0
IsLoadable program = (kind : Kind) × (bytes : List ℕ) × IsProgramOf kind bytes program

-- FILE held a program whose run of so many steps ended so
pub record RanTo (o : Outside) (file : List ℕ) (steps : ℕ) (old new : Streams) (end : End) : Type 0 where
  pub program : Program
  pub loaded : IsLoaded o file program
  pub ran : HasRunTo program steps old new end

-- FILE held a program whose run asked for a read within these steps, and no more was made of it
pub record RanPartly (o : Outside) (file : List ℕ) (steps : ℕ) (old new : Streams) : Type 0 where
  pub program : Program
  pub loaded : IsLoaded o file program
  pub ran : HasRunPartly program steps old new

-- What each cause of the command says. Memory stands before the first step, in a read, or in place of the cause of a run
-- that ended.
abbrev pub EndsRun : Outside → List ℕ → ℕ → Streams → Streams → Cause → Type 0
EndsRun o file steps old new (cause.GuestExit number) = RanTo o file steps old new (ending.Exit number)
EndsRun o file steps old new cause.StepsSpent = RanTo o file steps old new ending.Running
EndsRun o file steps old new cause.Trap = RanTo o file steps old new ending.Trap
EndsRun o file steps old new cause.Illegal = RanTo o file steps old new ending.Illegal
EndsRun o file steps old new cause.Outside = RanTo o file steps old new ending.Outside
EndsRun o file steps old new cause.DivideFault = RanTo o file steps old new ending.DivideFault
EndsRun o file steps old new cause.Memory = StreamsStand old new ⊎ RanPartly o file steps old new ⊎ ((end : End) × RanTo o file steps old new end)
EndsRun o file steps old new c = EndsUnread o file (StreamsStand old new) c

-- the cause of a run that ends so; none ends dry, since every call is answered
abbrev pub cause_of : End → Cause
cause_of (ending.Exit number) = cause.GuestExit number
cause_of ending.Trap = cause.Trap
cause_of ending.Illegal = cause.Illegal
cause_of ending.Outside = cause.Outside
cause_of ending.DivideFault = cause.DivideFault
cause_of ending.Running = cause.StepsSpent
cause_of ending.Dry = cause.StepsSpent

-- the run of a program whose calls are all answered whole
abbrev pub RunsWholeOn : Kind → (ℕ → Option Instr) → (List ℕ → Option Fetched) → Program → ℕ → Bytes → End → Type 0
RunsWholeOn PowerPc words ops program steps before end = HasWholeRun (guest_machine words program) (guest_start program) steps before end
RunsWholeOn Ia32 words ops program steps before end = HasWholeRun (host_machine ops program) (host_start program []) steps before end
