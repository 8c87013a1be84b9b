-- The program that a file lays out in memory: System V ABI, "Program Loading". The stack segment is this project's own.
use Rattle.std.specs.Prelude.{◌≡◌, ℕ, zero, suc, ◌-◌, Bool, true, false, not, ◌&&◌, if◌then◌else◌, Some, List, [], ◌∷◌, ◌++◌, take, drop, replicate}
use Rattle.std.specs.List.{position}
use Rattle.space.specs.declared.program.Kind.{Kind}
use Rattle.space.specs.declared.program.Kind.TheVariants.{PowerPc, Ia32}
use Rattle.space.specs.declared.program.Segment.{Segment}
use Rattle.space.specs.declared.program.Program.{Program}
use Rattle.elf_load.specs.Headers.{entry, header, header_count, is_segment, is_writable, is_executable}
use Rattle.elf_load.specs.declared.headers.ProgramHeader.{ProgramHeader}

-- this many bytes of 0
unfoldable pub zeros : ℕ → List ℕ
zeros count = replicate count 0

-- what a header puts into memory: its bytes of the file, and then zeros
abbrev pub segment_of : List ℕ → ProgramHeader → Segment
segment_of bytes h = record {
  at = h.vaddr;
  write = is_writable h;
  exec = is_executable h;
  bytes = take h.filesz (drop h.offset bytes) ++ zeros (h.memsz - h.filesz);
}

-- the segments of the headers below this number, in the order of the headers
unfoldable pub segments_before : Kind → List ℕ → ℕ → List Segment
segments_before kind bytes zero = []
segments_before kind bytes (suc number) =
    segments_before kind bytes number
    ++ (if is_segment (header kind bytes number) then segment_of bytes (header kind bytes number) ∷ [] else [])

-- the stack of a PowerPC program
abbrev pub stack : Segment
stack = record { at = 0x7F000000; write = true; exec = false; bytes = zeros 0x100000 }

abbrev pub stack_for : Kind → List Segment
stack_for PowerPc = stack ∷ []
stack_for Ia32 = []

abbrev pub segments_of : Kind → List ℕ → List Segment
segments_of kind bytes = segments_before kind bytes (header_count kind bytes) ++ stack_for kind

-- a code segment can be executed and not written
abbrev pub is_code_segment : Segment → Bool
is_code_segment s = s.exec && not s.write

-- the program has what the file says
pub record IsLaidOut (kind : Kind) (bytes : List ℕ) (program : Program) : Type 0 where
  pub machine : program.kind ≡ kind
  pub start : program.entry ≡ entry kind bytes
  pub memory : program.segments ≡ segments_of kind bytes
  pub code : position is_code_segment program.segments ≡ Some program.code
