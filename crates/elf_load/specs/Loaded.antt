-- What holds of the segments of each program that a file lays out. This project's own.
use Rattle.std.specs.Prelude.{◌≡◌, ℕ, false, List, Some, slice_get}
use Rattle.space.specs.declared.program.Kind.{Kind}
use Rattle.space.specs.declared.program.Segment.{Segment}
use Rattle.space.specs.declared.program.Program.{Program}
use Rattle.space.specs.Memory.{AreApart}
use Rattle.elf_load.specs.Faults.{IsProgramOf}

-- no address lies in two segments, the stack of a PowerPC program among them
abbrev pub LoadedIsApart : Type 0
LoadedIsApart =
    (kind : Kind) (bytes : List ℕ) (program : Program) → IsProgramOf kind bytes program → AreApart program.segments

-- the code segment may not be written
abbrev pub LoadedCodeIsClosed : Type 0
LoadedCodeIsClosed =
    (kind : Kind) (bytes : List ℕ) (program : Program) → IsProgramOf kind bytes program
    → (code : Segment) → slice_get program.segments program.code ≡ Some code → code.write ≡ false
