-- What each rule refuses, and where. The bounds, and the offsets that faults tell, are this project's own; the fields are those of System V ABI, "ELF Header" and "Program Header".
use Rattle.std.specs.Prelude.{◌≡◌, ◌≢◌, ℕ, zero, suc, ◌+◌, ◌*◌, ◌<◌, ◌⊎◌, IsTrue, if◌then◌else◌, Option, MatchOption, List, [], ◌∷◌, length, take, slice_index}
use Rattle.space.specs.declared.program.Kind.{Kind}
use Rattle.space.specs.declared.program.Kind.TheVariants.{PowerPc, Ia32}
use Rattle.space.specs.declared.program.Program.{Program}
use Rattle.elf_load.specs.Numbers.{half_at, word_at}
use Rattle.elf_load.specs.Headers.{entry, table_offset, header_count, header_offset, header, is_load, is_segment, is_code, IsWordOf, SharesAddress}
use Rattle.elf_load.specs.Program.{segments_of, IsLaidOut}
use Rattle.elf_load.specs.Area.{IsArea}
use Rattle.elf_load.specs.Rules.{number_of}
use Rattle.elf_load.specs.declared.faults.HeaderRule.{HeaderRule}
use Rattle.elf_load.specs.declared.faults.HeaderRule.TheVariants as header_rule
use Rattle.elf_load.specs.declared.refusal.ElfRefusal.{ElfRefusal}
use Rattle.elf_load.specs.declared.refusal.ElfRefusal.TheVariants as refusal
use Rattle.elf_load.specs.declared.refusal.LoadFault.{LoadFault}
use Rattle.elf_load.specs.declared.refusal.LoadFault.TheVariants.{Refused, Memory}

-- EI_DATA: ELFDATA2MSB or ELFDATA2LSB
abbrev pub data_order : Kind → ℕ
data_order PowerPc = 2
data_order Ia32 = 1

-- e_machine: EM_PPC or EM_386
abbrev pub machine_number : Kind → ℕ
machine_number PowerPc = 20
machine_number Ia32 = 3

abbrev pub most_headers : Kind → ℕ
most_headers PowerPc = 64
most_headers Ia32 = 96

-- 64 MiB and 256 MiB
abbrev pub most_memory : Kind → ℕ
most_memory PowerPc = 0x4000000
most_memory Ia32 = 0x10000000

-- how much memory the headers below this number ask for
unfoldable pub memory_before : Kind → List ℕ → ℕ → ℕ
memory_before kind bytes zero = 0
memory_before kind bytes (suc number) =
    memory_before kind bytes number + (if is_load (header kind bytes number) then (header kind bytes number).memsz else 0)

-- the header of this number breaks a rule that is asked of each header
abbrev pub Breaks : HeaderRule → Kind → List ℕ → ℕ → Type 0
-- PT_DYNAMIC or PT_INTERP
Breaks header_rule.Dynamic kind bytes number =
    ((header kind bytes number).segment_type ≡ 2) ⊎ ((header kind bytes number).segment_type ≡ 3)
Breaks header_rule.SegmentOutside kind bytes number =
    IsTrue (is_load (header kind bytes number))
    × (length bytes < (header kind bytes number).offset + (header kind bytes number).filesz)
Breaks header_rule.SizesCrossed kind bytes number =
    IsTrue (is_load (header kind bytes number)) × ((header kind bytes number).memsz < (header kind bytes number).filesz)
Breaks header_rule.HighSegment kind bytes number =
    IsTrue (is_load (header kind bytes number))
    × (0xC0000000 < (header kind bytes number).vaddr + (header kind bytes number).memsz)
Breaks header_rule.Overlap kind bytes number =
    IsTrue (is_segment (header kind bytes number))
    × ((earlier : ℕ) × (earlier < number) × IsTrue (is_segment (header kind bytes earlier))
    × SharesAddress (header kind bytes earlier).vaddr (header kind bytes earlier).memsz
    (header kind bytes number).vaddr (header kind bytes number).memsz)
Breaks header_rule.TooMuchMemory kind bytes number = most_memory kind < memory_before kind bytes (number + 1)
-- 512 KiB
Breaks header_rule.CodeLong kind bytes number =
    IsTrue (is_code (header kind bytes number)) × (0x80000 < (header kind bytes number).memsz)
Breaks header_rule.StackOverlap kind bytes number =
    IsTrue (is_segment (header kind bytes number))
    × SharesAddress (header kind bytes number).vaddr (header kind bytes number).memsz 0x7F000000 0x100000

-- the first header that breaks the rule begins at the offset
pub record IsFirstHeader (rule : HeaderRule) (kind : Kind) (bytes : List ℕ) (offset : ℕ) : Type 0 where
  pub number : ℕ
  pub within : number < header_count kind bytes
  pub breaks : Breaks rule kind bytes number
  pub none_before : (earlier : ℕ) → earlier < number → ¬ Breaks rule kind bytes earlier
  pub place : offset ≡ header_offset kind bytes number

-- exactly one header is of a code segment
pub record HasOneCode (kind : Kind) (bytes : List ℕ) : Type 0 where
  pub number : ℕ
  pub within : number < header_count kind bytes
  pub code : IsTrue (is_code (header kind bytes number))
  pub only : (other : ℕ) → other < header_count kind bytes → IsTrue (is_code (header kind bytes other)) → other ≡ number

-- the program starts at a word of a code segment
abbrev pub StartsAtWord : Kind → List ℕ → Type 0
StartsAtWord kind bytes =
    (number : ℕ) × (number < header_count kind bytes) × IsTrue (is_code (header kind bytes number))
    × IsWordOf (header kind bytes number) (entry kind bytes)

-- the rule refuses the file, with this offset
abbrev pub Fails : ElfRefusal → Kind → List ℕ → ℕ → Type 0
Fails refusal.Short kind bytes offset = (length bytes < 52) × (offset ≡ 0)
Fails refusal.Magic kind bytes offset = (take 4 bytes ≢ 0x7F ∷ 0x45 ∷ 0x4C ∷ 0x46 ∷ []) × (offset ≡ 0)
Fails refusal.Class kind bytes offset = (slice_index bytes 4 ≢ 1) × (offset ≡ 4)
Fails refusal.Order kind bytes offset = (slice_index bytes 5 ≢ data_order kind) × (offset ≡ 5)
Fails refusal.Version kind bytes offset =
    ((slice_index bytes 6 ≢ 1) × (offset ≡ 6))
    ⊎ ((slice_index bytes 6 ≡ 1) × (word_at kind bytes 20 ≢ 1) × (offset ≡ 20))
-- ET_EXEC
Fails refusal.Type kind bytes offset = (half_at kind bytes 16 ≢ 2) × (offset ≡ 16)
Fails refusal.Machine kind bytes offset = (half_at kind bytes 18 ≢ machine_number kind) × (offset ≡ 18)
Fails refusal.HeaderSize kind bytes offset = (half_at kind bytes 42 ≢ 32) × (offset ≡ 42)
Fails refusal.HeaderCount kind bytes offset =
    ((header_count kind bytes ≡ 0) ⊎ (most_headers kind < header_count kind bytes)) × (offset ≡ 44)
Fails refusal.TableOutside kind bytes offset =
    (length bytes < table_offset kind bytes + 32 * header_count kind bytes) × (offset ≡ 28)
Fails refusal.Dynamic kind bytes offset = IsFirstHeader header_rule.Dynamic kind bytes offset
Fails refusal.SegmentOutside kind bytes offset = IsFirstHeader header_rule.SegmentOutside kind bytes offset
Fails refusal.SizesCrossed kind bytes offset = IsFirstHeader header_rule.SizesCrossed kind bytes offset
Fails refusal.HighSegment kind bytes offset = IsFirstHeader header_rule.HighSegment kind bytes offset
Fails refusal.Overlap kind bytes offset = IsFirstHeader header_rule.Overlap kind bytes offset
Fails refusal.TooMuchMemory kind bytes offset = IsFirstHeader header_rule.TooMuchMemory kind bytes offset
Fails refusal.CodeCount kind bytes offset = (¬ HasOneCode kind bytes) × (offset ≡ 44)
Fails refusal.CodeLong kind bytes offset = (kind ≡ PowerPc) × IsFirstHeader header_rule.CodeLong kind bytes offset
Fails refusal.Entry kind bytes offset = (kind ≡ PowerPc) × (¬ StartsAtWord kind bytes) × (offset ≡ 24)
Fails refusal.StackOverlap kind bytes offset = (kind ≡ PowerPc) × IsFirstHeader header_rule.StackOverlap kind bytes offset
Fails refusal.NoRoom kind bytes offset =
    (kind ≡ PowerPc) × ((at : ℕ) → ¬ IsArea (segments_of kind bytes) at) × (offset ≡ 44)

-- the rule refuses the file at no offset
abbrev pub Passes : ElfRefusal → Kind → List ℕ → Type 0
Passes rule kind bytes = (offset : ℕ) → ¬ Fails rule kind bytes offset

-- the file passes every rule below this number
abbrev pub PassesBelow : ℕ → Kind → List ℕ → Type 0
PassesBelow number kind bytes = (rule : ElfRefusal) → number_of rule < number → Passes rule kind bytes

-- the offset with which the rule refuses the file, or None where it passes
abbrev pub IsFault : ElfRefusal → Kind → List ℕ → Option ℕ → Type 0
IsFault rule kind bytes found = MatchOption found (Passes rule kind bytes) (λ offset. Fails rule kind bytes offset)

-- the rule is the least that refuses the file, with this offset
pub record IsFirstFault (kind : Kind) (bytes : List ℕ) (rule : ElfRefusal) (offset : ℕ) : Type 0 where
  pub fails : Fails rule kind bytes offset
  pub least : PassesBelow (number_of rule) kind bytes

-- no rule refuses the file, and the program has what it says
pub record IsProgramOf (kind : Kind) (bytes : List ℕ) (program : Program) : Type 0 where
  pub passes : (rule : ElfRefusal) → Passes rule kind bytes
  pub laid_out : IsLaidOut kind bytes program

-- why a file is not loaded: its first fault, or want of memory
abbrev pub IsCause : Kind → List ℕ → LoadFault → Type 0
IsCause kind bytes (Refused rule offset) = IsFirstFault kind bytes rule offset
IsCause kind bytes (Memory none) = Unit {0}
