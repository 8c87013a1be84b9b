-- The ELF header and the program headers: System V ABI, "ELF Header" and "Program Header". Each number is read at its offset in the whole file.
use Rattle.std.specs.Prelude.{◌≡◌, ℕ, ◌+◌, ◌*◌, ◌%◌, ◌<◌, ◌≤◌, Bool, not, ◌&&◌, ◌==◌, nat_lt, bit_and, List, length}
use Rattle.space.specs.declared.program.Kind.{Kind}
use Rattle.elf_load.specs.Numbers.{half_at, word_at}
use Rattle.elf_load.specs.declared.headers.ProgramHeader.{ProgramHeader}

-- e_entry, where the program starts
abbrev pub entry : Kind → List ℕ → ℕ
entry kind bytes = word_at kind bytes 24

-- e_phoff, where the table of program headers begins
abbrev pub table_offset : Kind → List ℕ → ℕ
table_offset kind bytes = word_at kind bytes 28

-- e_phnum, how many program headers there are
abbrev pub header_count : Kind → List ℕ → ℕ
header_count kind bytes = half_at kind bytes 44

-- where the program header of this number begins
abbrev pub header_offset : Kind → List ℕ → ℕ → ℕ
header_offset kind bytes number = table_offset kind bytes + 32 * number

-- the file has an ELF header, and all its program headers
pub record HasTable (kind : Kind) (bytes : List ℕ) : Type 0 where
  pub header : 52 ≤ length bytes
  pub table : table_offset kind bytes + 32 * header_count kind bytes ≤ length bytes

-- p_type, p_offset, p_vaddr, p_filesz, p_memsz and p_flags of the program header of this number
unfoldable pub header : Kind → List ℕ → ℕ → ProgramHeader
header kind bytes number = record {
  segment_type = word_at kind bytes (header_offset kind bytes number);
  offset = word_at kind bytes (header_offset kind bytes number + 4);
  vaddr = word_at kind bytes (header_offset kind bytes number + 8);
  filesz = word_at kind bytes (header_offset kind bytes number + 16);
  memsz = word_at kind bytes (header_offset kind bytes number + 20);
  flags = word_at kind bytes (header_offset kind bytes number + 24);
}

-- PT_LOAD
abbrev pub is_load : ProgramHeader → Bool
is_load h = h.segment_type == 1

-- a segment has at least one byte of memory
abbrev pub is_segment : ProgramHeader → Bool
is_segment h = is_load h && nat_lt 0 h.memsz

-- PF_W
abbrev pub is_writable : ProgramHeader → Bool
is_writable h = not (bit_and h.flags 2 == 0)

-- PF_X
abbrev pub is_executable : ProgramHeader → Bool
is_executable h = not (bit_and h.flags 1 == 0)

-- A code segment can be executed and not written. That segments with both rights are data is this project's own.
abbrev pub is_code : ProgramHeader → Bool
is_code h = is_segment h && is_executable h && not (is_writable h)

-- a word of four bytes stands at the address, aligned, and all of it in the segment
pub record IsWordOf (h : ProgramHeader) (address : ℕ) : Type 0 where
  pub aligned : address % 4 ≡ 0
  pub begins : h.vaddr ≤ address
  pub ends : address + 4 ≤ h.vaddr + h.memsz

-- one address is among the first_size from first on and the second_size from second on
abbrev pub SharesAddress : (first first_size second second_size : ℕ) → Type 0
SharesAddress first first_size second second_size =
    (x : ℕ) × (first ≤ x) × (x < first + first_size) × (second ≤ x) × (x < second + second_size)
