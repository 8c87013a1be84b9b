-- What a run of `list FILE` did, by its cause.
use Rattle.std.specs.Prelude.{◌≡◌, ◌<◌, ◌≤◌, ◌⊎◌, ◌==◌, IsTrue, if◌then◌else◌, ℕ, List, length, slice_index, Option, Some}
use Rattle.std.specs.Io.KnownBytes.{Appends}
use Rattle.machines.specs.Prelude.{Kind, PowerPc, Ia32, Program, Instr, Op}
use Rattle.elf_load.specs.Prelude.{IsProgramOf, IsFirstFault}
use Rattle.elf_load.specs.declared.refusal.ElfRefusal.{ElfRefusal}
use Rattle.ppc_isa.specs.Legal.{ReadsWords}
use Rattle.ia_codec.specs.Spelling.{IsReading as ReadsOps}
use Rattle.listing.specs.Listing.{text_of}
use Rattle.outside.specs.Causes.{Rose}
use Rattle.outside.specs.Streams.{AppendsPrefix}
use Rattle.trans_tool.specs.Whole.{IsLonger}
use Rattle.trans_tool.specs.Seen.{Outside, Stream, StreamStands}
use Rattle.trans_tool.specs.declared.cause.Cause.{Cause}
use Rattle.trans_tool.specs.declared.cause.Cause.TheVariants.{Done, BadElf, TooLong, FileRead, OutFault, Memory}

-- A file is for IA-32 exactly where its byte 5, which tells the order of its bytes, says so, and else for PowerPC,
-- also where it has no such byte. This project's own.
abbrev pub kind_of : List ℕ → Kind
kind_of bytes = if slice_index bytes 5 == 1 then Ia32 else PowerPc

-- FILE held these bytes, of which there are at most 256 MiB
pub record IsFile (o : Outside) (file bytes : List ℕ) : Type 0 where
  pub held : IsTrue o.tells → o.held file ≡ Some bytes
  pub within : length bytes ≤ 0x10000000

-- FILE held a program
pub record IsLoaded (o : Outside) (file : List ℕ) (program : Program) : Type 0 where
  pub bytes : List ℕ
  pub held : IsFile o file bytes
  pub loads : IsProgramOf (kind_of bytes) bytes program

-- the program's listing was put, over the one reading of words and that of bytes
abbrev pub IsListed : Program → Stream → Type 0
IsListed program out =
    (words : ℕ → Option Instr) (ops : List ℕ → Option (Op × ℕ)) → ReadsWords words → ReadsOps ops
    → Appends out.shown out.shown' (text_of words ops program)

-- a prefix of it was put
abbrev pub IsListedPartly : Program → Stream → Type 0
IsListedPartly program out =
    (words : ℕ → Option Instr) (ops : List ℕ → Option (Op × ℕ)) → ReadsWords words → ReadsOps ops
    → AppendsPrefix out.shown out.shown' (text_of words ops program)

-- FILE held bytes whose first fault is this
pub record IsRefused (o : Outside) (file : List ℕ) (rule : ElfRefusal) (offset : ℕ) : Type 0 where
  pub bytes : List ℕ
  pub held : IsFile o file bytes
  pub fault : IsFirstFault (kind_of bytes) bytes rule offset

-- Why FILE gave no program, beside what is said of the streams.
abbrev pub EndsUnread : Outside → List ℕ → Type 0 → Cause → Type 0
EndsUnread o file Streams (FileRead number) = (number ≡ 0) × (o.reads file < o.reads' file) × Streams
EndsUnread o file Streams (TooLong number) = (number ≡ 0) × (IsTrue o.tells → IsLonger 0x10000000 (o.held file)) × Streams
EndsUnread o file Streams (BadElf rule offset) = IsRefused o file rule offset × Streams
EndsUnread o file Streams Memory = Streams
EndsUnread o file Streams _ = ⊥

-- What each cause of the command says. Where memory runs out a prefix of the listing may have been put.
abbrev pub EndsListing : Outside → Stream → List ℕ → Cause → Type 0
EndsListing o out file Done = (program : Program) × IsLoaded o file program × IsListed program out
EndsListing o out file OutFault =
    ((program : Program) × IsLoaded o file program × IsListedPartly program out) × Rose out.faults out.faults'
EndsListing o out file Memory = StreamStands out ⊎ ((program : Program) × IsLoaded o file program × IsListedPartly program out)
EndsListing o out file cause = EndsUnread o file (StreamStands out) cause
