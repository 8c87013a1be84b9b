-- The written file: System V ABI, "ELF Header" and "Program Header", for IA-32, the lowest byte first. Each header is the list of its fields in order.
use Rattle.std.specs.Prelude.{◌≡◌, ◌≤◌, ℕ, ◌+◌, ◌-◌, ◌*◌, ◌%◌, ◌==◌, Bool, List, [], ◌∷◌, ◌++◌, length, replicate, if◌then◌else◌}
use Rattle.byteorder.specs.Endian.{little_bytes}

-- A segment of the file: where it begins in memory and how many bytes it has there, its rights, and its bytes in the file. Each may be read.
pub record FileSegment : Type 0 where
  pub at : ℕ
  pub size : ℕ
  pub write : Bool
  pub exec : Bool
  pub bytes : List ℕ

abbrev pub half : ℕ → List ℕ
half n = little_bytes 2 n

abbrev pub word : ℕ → List ℕ
word n = little_bytes 4 n

-- e_ident: the magic number, ELFCLASS32, ELFDATA2LSB, EV_CURRENT; then e_type EXEC, e_machine EM_386, e_version
unfoldable pub identification : List ℕ
identification =
    (0x7F ∷ 0x45 ∷ 0x4C ∷ 0x46 ∷ 1 ∷ 1 ∷ 1 ∷ 0 ∷ 0 ∷ 0 ∷ 0 ∷ 0 ∷ 0 ∷ 0 ∷ 0 ∷ 0 ∷ []) ++ half 2 ++ half 3 ++ word 1

-- e_shentsize, e_shnum, e_shstrndx
unfoldable pub no_sections : List ℕ
no_sections = half 0 ++ half 0 ++ half 0

-- identification, e_entry, e_phoff, e_shoff, e_flags, e_ehsize, e_phentsize, e_phnum, no sections
unfoldable pub file_header : ℕ → ℕ → List ℕ
file_header entry count =
    identification ++ word entry ++ word 52 ++ word 0 ++ word 0 ++ half 52 ++ half 32 ++ half count ++ no_sections

-- PF_R, PF_W and PF_X
abbrev pub flags_of : FileSegment → ℕ
flags_of s = 4 + (if s.write then 2 else 0) + (if s.exec then 1 else 0)

-- p_type LOAD, p_offset, p_vaddr, p_paddr, p_filesz, p_memsz, p_flags, p_align
unfoldable pub program_header : FileSegment → ℕ → List ℕ
program_header s offset =
    word 1 ++ word offset ++ word s.at ++ word s.at ++ word (length s.bytes) ++ word s.size ++ word (flags_of s) ++ word 4096

-- where the segment's bytes stand behind `end`: the least offset of those that equal its address modulo 4096; 0 where the file has none of its bytes
abbrev pub offset_of : FileSegment → ℕ → ℕ
offset_of s end = if length s.bytes == 0 then 0 else end + (s.at + (4096 - end % 4096)) % 4096

-- the least offset from `end` on that equals the segment's address modulo 4096
pub record IsLeastOffset (s : FileSegment) (end offset : ℕ) : Type 0 where
  pub behind : end ≤ offset
  pub congruent : offset % 4096 ≡ s.at % 4096
  pub least : (other : ℕ) → end ≤ other → other % 4096 ≡ s.at % 4096 → offset ≤ other

-- where the file ends behind the segment, if it ended at `end` before it
abbrev pub end_of : FileSegment → ℕ → ℕ
end_of s end = if length s.bytes == 0 then end else offset_of s end + length s.bytes

-- the program headers of segments whose bytes stand behind `end`
unfoldable pub program_headers : List FileSegment → ℕ → List ℕ
program_headers [] end = []
program_headers (s ∷ ss) end = program_header s (offset_of s end) ++ program_headers ss (end_of s end)

-- the bytes of the segments, with zeros before them
unfoldable pub contents : List FileSegment → ℕ → List ℕ
contents [] end = []
contents (s ∷ ss) end = (replicate (offset_of s end - end) 0 ++ s.bytes) ++ contents ss (end_of s end)

-- where the headers of so many segments end
abbrev pub headers_end : ℕ → ℕ
headers_end count = 52 + 32 * count

-- the whole file of these segments, whose run begins at `entry`
unfoldable pub elf_file : ℕ → List FileSegment → List ℕ
elf_file entry segments =
    file_header entry (length segments) ++ program_headers segments (headers_end (length segments))
    ++ contents segments (headers_end (length segments))
