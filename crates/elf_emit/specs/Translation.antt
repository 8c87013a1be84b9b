-- The file of a translation, and what it is in memory. Which segments it has, and where they stand, is this project's own.
use Rattle.std.specs.Prelude.{ℕ, ◌+◌, ◌-◌, ◌*◌, ◌<◌, ◌≤◌, ◌==◌, true, false, if◌then◌else◌, List, [], ◌∷◌, ◌++◌, length, take, map}
use Rattle.std.specs.List.{flat_map, suffix_len}
use Rattle.byteorder.specs.Endian.{little_bytes}
use Rattle.space.specs.declared.program.Kind.TheVariants.{Ia32}
use Rattle.space.specs.declared.program.Segment.{Segment}
use Rattle.space.specs.declared.program.Program.{Program}
use Rattle.branch_table.specs.declared.code.Code.{Code}
use Rattle.elf_load.specs.Prelude.{zeros, is_code_segment}
use Rattle.elf_emit.specs.File.{FileSegment, word}

-- how many bytes of a segment of the program the file has: all of the code, and of another those before the zeros at its end
abbrev pub kept : Segment → ℕ
kept s = if is_code_segment s then length s.bytes else length s.bytes - suffix_len (λ b. b == 0) s.bytes

-- a segment of the program in the file, where none can be executed
abbrev pub source : Segment → FileSegment
source s = record {
  at = s.at;
  size = length s.bytes;
  write = s.write;
  exec = false;
  bytes = take (kept s) s.bytes;
}

-- a segment of which the file has all bytes
abbrev pub whole : Segment → FileSegment
whole s = record { at = s.at; size = length s.bytes; write = s.write; exec = s.exec; bytes = s.bytes }

-- the home page at the start: r0's word, r1's, which is the stack pointer, and all else 0
unfoldable pub home_page : List ℕ
home_page = word 0 ++ word 0x7F0FFFC0 ++ zeros 4088

-- what a translation adds to the program, in the host area: the home page, the table and the code
abbrev pub home_segment : ℕ → Segment
home_segment area = record { at = area; write = true; exec = false; bytes = home_page }

abbrev pub table_segment : ℕ → List ℕ → Segment
table_segment area table = record { at = area + 0x1000; write = false; exec = false; bytes = table }

abbrev pub code_segment : ℕ → List ℕ → Segment
code_segment area code = record { at = area + 0x81000; write = false; exec = true; bytes = code }

abbrev pub added_segments : ℕ → List ℕ → List ℕ → List Segment
added_segments area table code = home_segment area ∷ table_segment area table ∷ code_segment area code ∷ []

-- the table's bytes: a word for each word of the program's code, its lowest byte first
abbrev pub table_bytes : Code → List ℕ
table_bytes code = flat_map (little_bytes 4) code.entries

abbrev pub added : Code → ℕ → List Segment
added code area = added_segments area (table_bytes code) code.bytes

-- the segments of the file, in the order of its headers
abbrev pub file_segments : Program → Code → ℕ → List FileSegment
file_segments program code area = map source program.segments ++ map whole (added code area)

-- a segment of the program in memory: nothing of it is run
abbrev pub as_data : Segment → Segment
as_data s = record s { exec = false }

-- in the order of the headers: the program's, its stack last, then home, table and code
abbrev pub written_segments : List Segment → ℕ → List ℕ → List ℕ → List Segment
written_segments segments area table code = map as_data segments ++ added_segments area table code

-- what the file is in memory: the program, of which nothing is executed, and what is added
abbrev pub translated : Program → Code → ℕ → Program
translated program code area = record {
  kind = Ia32;
  entry = code.start;
  segments = written_segments program.segments area (table_bytes code) code.bytes;
  code = length program.segments + 2;
}

-- the table and the code have something to hold, and find room in the area
pub record FitsArea (code : Code) : Type 0 where
  pub some_entries : 0 < length code.entries
  pub table : 4 * length code.entries ≤ 0x81000 - 0x1000
  pub some_bytes : 0 < length code.bytes
  pub bytes : length code.bytes ≤ 0x0A000000 - 0x81000
