-- What a written file lays out in memory, and where a run of it begins. This project's own.
use Rattle.std.specs.Prelude.{◌≡◌, ℕ, ◌+◌, ◌<◌, ◌≤◌, true, false, List, length, get_or}
use Rattle.machines.specs.Prelude.{Program, Rights, Code, rights_of, code_of, first_bytes, guest_start, Choice, host_start, without}
use Rattle.elf_load.specs.Prelude.{IsArea}
use Rattle.reg_map.specs.Prelude.{IsHomePage, HasSegments}
use Rattle.symbolic_tiles.specs.Prelude.{WritesHeld}
use Rattle.elf_emit.specs.Prelude.{written_segments}
use Rattle.simulation.specs.Prelude.{SimulationContext, Starts}
use Rattle.upkeep.specs.Loaded.{AreBytes, HaveBytes}

-- Q has what is written for P with these bytes of table and code. The table ends before the code, and the code in the area.
pub record IsWritten (P : Program) (area : ℕ) (table code : List ℕ) (Q : Program) : Type 0 where
  pub segments : Q.segments ≡ written_segments P.segments area table code
  pub place : Q.code ≡ length P.segments + 2
  pub table_fits : length table ≤ 0x80000
  pub code_fits : 0x81000 + length code ≤ 0x0A000000

-- what the host may read and write, where its own code is no data
abbrev pub narrow_rights : Program → Rights
narrow_rights Q = without (code_of Q) (rights_of Q)

abbrev pub host_code : ℕ → List ℕ → Code
host_code area code = record { at = area + 0x81000; bytes = code }

-- The host has the source's memory and, apart from it, the home page; the table, which can be read and not written, and
-- the code stand where they are written, and this code is what it runs.
pub record IsInPlace (P : Program) (area : ℕ) (table code : List ℕ) (Q : Program) : Type 0 where
  pub page : IsHomePage area (rights_of P) (narrow_rights Q)
  pub segments : HasSegments (rights_of P) (narrow_rights Q)
  pub writes_held : WritesHeld (rights_of P)
  pub table_held : (k : ℕ) → k < length table → (narrow_rights Q).held (area + 0x1000 + k) ≡ true
  pub table_unwritable : (k : ℕ) → k < length table → (narrow_rights Q).writable (area + 0x1000 + k) ≡ false
  pub table_stands : (k : ℕ) → k < length table → first_bytes Q.segments (area + 0x1000 + k) ≡ get_or table k 0
  pub code_stands : (k : ℕ) → k < length code → first_bytes Q.segments (area + 0x81000 + k) ≡ get_or code k 0
  pub code_is : code_of Q ≡ host_code area code

abbrev pub WrittenIsInPlace : Type 0
WrittenIsInPlace =
    (P Q : Program) (area : ℕ) (table code : List ℕ) → IsArea P.segments area → IsWritten P area table code Q →
    IsInPlace P area table code Q

-- A context of the simulation with the memory of Q. The run of Q begins where the table leads at P's first word.
pub record IsContextOf (P Q : Program) (area : ℕ) (s : SimulationContext) : Type 0 where
  pub guest : s.guest ≡ rights_of P
  pub area_is : s.area ≡ area
  pub image : s.image ≡ first_bytes Q.segments
  pub entry : Q.entry ≡ s.door P.entry

-- all that is written is bytes, where the source's segments, the table and the code are
abbrev pub WrittenHasBytes : Type 0
WrittenHasBytes =
    (P Q : Program) (area : ℕ) (table code : List ℕ) → IsWritten P area table code Q →
    HaveBytes P.segments → AreBytes table → AreBytes code → HaveBytes Q.segments

-- whatever the processor chooses, the simulation holds at the start
abbrev pub WrittenStarts : Type 0
WrittenStarts =
    (P Q : Program) (area : ℕ) (table code : List ℕ) (s : SimulationContext) (choices : List Choice) →
    IsArea P.segments area → IsWritten P area table code Q → HaveBytes Q.segments → IsContextOf P Q area s →
    Starts s (guest_start P) (host_start Q choices)
