-- What a file's program carries that is translated by plans, under any register maps and live sets. This project's own.
use Rattle.std.specs.Prelude.{◌≡◌, ℕ, List, length, Option}
use Rattle.std.specs.List.{flat_map}
use Rattle.byteorder.specs.Endian.{little_bytes}
use Rattle.machines.specs.Prelude.{Ia32, Program, Instr, AgreesWith, Fetched, ReadsWords, ReadsOps}
use Rattle.elf_load.specs.Prelude.{IsArea, IsProgramOf}
use Rattle.agreement.specs.Files.{Agrees}
use Rattle.code_layout.specs.Prelude.{entry_of}
use Rattle.code_words.specs.Words.{HasWords, first_of}
use Rattle.simulation.specs.Prelude.{SimulationContext, JumpsTo, LiveIsEnough, DoorAt}
use Rattle.laid_code.specs.Prelude.{code_start, Interface, context_of, AreAddresses, IsBlockOrOff}
use Rattle.upkeep.specs.Loaded.{HaveBytes}
use Rattle.upkeep.specs.Written.{IsWritten}

-- In a context what isn't live makes no difference; the block of each code word's plan stands where edges to it lead, and
-- the table leads to it at once or by an adapter; and `hold` is a jump to itself.
pub record HasPlans (s : SimulationContext) : Type 0 where
  pub live : LiveIsEnough s
  pub blocks : (w : ℕ) → IsBlockOrOff s w
  pub doors : (w : ℕ) → DoorAt s w
  pub holds : JumpsTo s s.hold s.hold

-- Q is written for P in a host area, with a table of a word for each code word and a code that carries the plans of their
-- blocks, which keep to the interface, however words and ops are read; and it begins where the table leads at P's first word.
pub record CarriesPlans (interface : Interface) (P Q : Program) : Type 0 where
  pub area : ℕ
  pub entries : List ℕ
  pub code : List ℕ
  pub words : List ℕ
  pub targets : ℕ → ℕ
  pub is_area : IsArea P.segments area
  pub written : IsWritten P area (flat_map (little_bytes 4) entries) code Q
  pub bytes : HaveBytes Q.segments
  pub has : HasWords P (first_of P) words
  pub count : length entries ≡ length words
  pub low : AreAddresses entries
  pub start : Q.entry ≡ entry_of (first_of P) entries (code_start area) P.entry
  pub plans : (reading : ℕ → Option Instr) (ops : List ℕ → Option Fetched) → ReadsWords reading → ReadsOps ops → HasPlans (context_of interface targets reading ops P Q (first_of P) area entries)

-- Under whatever interface a program carries the plans of another, it agrees with it, and so does a file that is loaded as it.
abbrev pub PlansAgree : Type 0
PlansAgree = (interface : Interface) (P Q : Program) → CarriesPlans interface P Q → AgreesWith P Q × ((file : List ℕ) → IsProgramOf Ia32 file Q → Agrees P file)
