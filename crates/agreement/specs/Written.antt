-- What a file carries that is written for a program. This project's own.
use Rattle.std.specs.Prelude.{◌≡◌, ℕ, List}
use Rattle.machines.specs.Prelude.{Ia32, Program}
use Rattle.branch_table.specs.declared.code.Code.{Code}
use Rattle.elf_load.specs.Prelude.{IsHostArea, IsProgramOf}
use Rattle.elf_emit.specs.Prelude.{elf_file, FitsArea, file_segments, translated}
use Rattle.agreement.specs.Files.{Agrees}
use Rattle.code_layout.specs.Prelude.{IsLaidFor}
use Rattle.plan_form.specs.declared.problem.Step.{Step}
use Rattle.laid_code.specs.Prelude.{laid_interface}
use Rattle.upkeep.specs.Loaded.{AreBytes}
use Rattle.agreement.specs.Plans.{CarriesPlans}

-- The file carries a program's translation by plans of its blocks: byte for byte it is the program's segments, and in the host
-- area, the least that is free beside them, the home page, the table and the code that is laid out for the program by these
-- plans; and it is loaded so.
pub record Carries (P : Program) (plans : List (List Step)) (file : List ℕ) : Type 0 where
  pub area : ℕ
  pub code : Code
  pub in_area : IsHostArea P.segments area
  pub laid : IsLaidFor P plans area code
  pub fits : FitsArea code
  pub whole : file ≡ elf_file code.start (file_segments P code area)
  pub loaded : IsProgramOf Ia32 file (translated P code area)

-- A program's translation carries the plans of its blocks, every one of which begins with no GPR in a register, with the
-- program's live sets.
abbrev pub CarryingIsPlanned : Type 0
CarryingIsPlanned = (P : Program) (plans : List (List Step)) (file : List ℕ) → AreBytes file → (x : Carries P plans file) → CarriesPlans (laid_interface x.laid.live) P (translated P x.code x.area)

-- A file that carries a program's translation agrees with the program.
abbrev pub CarryingAgrees : Type 0
CarryingAgrees = (P : Program) (plans : List (List Step)) (file : List ℕ) → AreBytes file → Carries P plans file → Agrees P file
