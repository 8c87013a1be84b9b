-- Which cause the bytes of a file are due to have, where nothing hinders the run.
use Rattle.std.specs.Prelude.{◌≡◌, ◌<◌, ◌≤◌, IsTrue, ℕ, List, length, Option, Some}
use Rattle.machines.specs.Prelude.{PowerPc, Program, End, Instr, Fetched}
use Rattle.elf_load.specs.Prelude.{IsProgramOf, IsFirstFault}
use Rattle.outside.specs.Causes.{Rose}
use Rattle.runner.specs.Prelude.{Bytes, Streams}
use Rattle.trans_tool.specs.Running.{RunsWholeOn, cause_of}
use Rattle.trans_tool.specs.Words.{Spells, SpellsList, SpellsRun}
use Rattle.trans_tool.specs.Seen.{Outside}
use Rattle.trans_tool.specs.Listing.{kind_of}
use Rattle.trans_tool.specs.declared.cause.Cause.{Cause}
use Rattle.trans_tool.specs.declared.cause.Cause.TheVariants.{Done, BadElf, TooLong}

-- the file of these bytes is too long, or its first fault is this, or else it is translated
abbrev pub IsDue : List ℕ → Cause → Type 0
IsDue bytes (TooLong file) = (file ≡ 0) × (0x1000000 < length bytes)
IsDue bytes (BadElf rule offset) = (length bytes ≤ 0x1000000) × IsFirstFault PowerPc bytes rule offset
IsDue bytes Done = (length bytes ≤ 0x1000000) × ((program : Program) × IsProgramOf PowerPc bytes program)
IsDue bytes _ = ⊥

-- the same for a listing
abbrev pub IsDueListing : List ℕ → Cause → Type 0
IsDueListing bytes (TooLong file) = (file ≡ 0) × (0x10000000 < length bytes)
IsDueListing bytes (BadElf rule offset) = (length bytes ≤ 0x10000000) × IsFirstFault (kind_of bytes) bytes rule offset
IsDueListing bytes Done = (length bytes ≤ 0x10000000) × ((program : Program) × IsProgramOf (kind_of bytes) bytes program)
IsDueListing bytes _ = ⊥

-- The program in these bytes is run so many steps, with its calls answered whole from the streams, which tell these bytes.
pub record IsDueEnd (words : ℕ → Option Instr) (ops : List ℕ → Option Fetched) (bytes : List ℕ) (steps : ℕ) (before : Bytes) (c : Cause) : Type 0 where
  pub within : length bytes ≤ 0x10000000
  pub program : Program
  pub loads : IsProgramOf (kind_of bytes) bytes program
  pub end : End
  pub runs : RunsWholeOn program.kind words ops program steps before end
  pub is : c ≡ cause_of end

-- the same for a run: a file that isn't run has its cause, and the others are those of the run
abbrev pub IsDueRun : (ℕ → Option Instr) → (List ℕ → Option Fetched) → List ℕ → ℕ → Bytes → Cause → Type 0
IsDueRun words ops bytes steps before (TooLong file) = (file ≡ 0) × (0x10000000 < length bytes)
IsDueRun words ops bytes steps before (BadElf rule offset) = (length bytes ≤ 0x10000000) × IsFirstFault (kind_of bytes) bytes rule offset
IsDueRun words ops bytes steps before c = IsDueEnd words ops bytes steps before c

-- the words spell a translation of a file of these bytes, and no count rose of the errors, of reads under IN or of
-- replaces under OUT
pub record IsUnhindered (words : List (List ℕ)) (o : Outside) (old new : Streams) (from to bytes : List ℕ) : Type 0 where
  pub spelled : Spells words from to
  pub telling : IsTrue o.tells
  pub input : o.held from ≡ Some bytes
  pub read : o.reads from < o.reads' from → ⊥
  pub written : o.replaces to < o.replaces' to → ⊥
  pub errors : Rose old.errors_faults new.errors_faults → ⊥

-- the words spell a listing of a file of these bytes, and no count rose of the output, of the errors or of reads under FILE
pub record IsUnhinderedListing (words : List (List ℕ)) (o : Outside) (old new : Streams) (file bytes : List ℕ) : Type 0 where
  pub spelled : SpellsList words file
  pub telling : IsTrue o.tells
  pub input : o.held file ≡ Some bytes
  pub read : o.reads file < o.reads' file → ⊥
  pub output : Rose old.output_faults new.output_faults → ⊥
  pub errors : Rose old.errors_faults new.errors_faults → ⊥

-- the words spell a run of a file of these bytes, and no count rose of a stream or of reads under FILE
pub record IsUnhinderedRun (words : List (List ℕ)) (o : Outside) (old new : Streams) (file : List ℕ) (steps : ℕ) (bytes : List ℕ) : Type 0 where
  pub spelled : SpellsRun words file steps
  pub telling : IsTrue o.tells
  pub held : o.held file ≡ Some bytes
  pub read : o.reads file < o.reads' file → ⊥
  pub input : Rose old.input_faults new.input_faults → ⊥
  pub output : Rose old.output_faults new.output_faults → ⊥
  pub errors : Rose old.errors_faults new.errors_faults → ⊥
