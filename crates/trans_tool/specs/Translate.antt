-- What a run of `translate IN OUT` did, by its cause.
use Rattle.std.specs.Prelude.{◌≡◌, ◌<◌, ◌≤◌, ◌⊎◌, IsTrue, ℕ, List, length, Some}
use Rattle.machines.specs.Prelude.{PowerPc, Program}
use Rattle.elf_load.specs.Prelude.{IsProgramOf, IsFirstFault}
use Rattle.elf_load.specs.declared.refusal.ElfRefusal.{ElfRefusal}
use Rattle.agreement.specs.Files.{Agrees}
use Rattle.agreement.specs.Written.{Carries}
use Rattle.plan_form.specs.declared.problem.BlockPlan.{BlockPlan}
use Rattle.best_plans.specs.Plans.{HasBestPlans}
use Rattle.code_layout.specs.Prelude.{steps_of}
use Rattle.translate_core.specs.declared.translation.Output.{Output}
use Rattle.trans_tool.specs.Whole.{IsLonger}
use Rattle.trans_tool.specs.Seen.{Outside, FilesStand, OthersStand}
use Rattle.trans_tool.specs.declared.cause.Cause.{Cause}
use Rattle.trans_tool.specs.declared.cause.Cause.TheVariants.{Done, BadElf, TooLong, FileRead, FileWrite, Memory}

-- IN held these bytes, of which there are at most 16 MiB
pub record IsInput (o : Outside) (from bytes : List ℕ) : Type 0 where
  pub held : IsTrue o.tells → o.held from ≡ Some bytes
  pub within : length bytes ≤ 0x1000000

-- IN held a PowerPC program
pub record IsSource (o : Outside) (from : List ℕ) : Type 0 where
  pub bytes : List ℕ
  pub program : Program
  pub input : IsInput o from bytes
  pub loads : IsProgramOf PowerPc bytes program

-- IN held bytes whose first fault is this
pub record IsRefused (o : Outside) (from : List ℕ) (rule : ElfRefusal) (offset : ℕ) : Type 0 where
  pub bytes : List ℕ
  pub input : IsInput o from bytes
  pub fault : IsFirstFault PowerPc bytes rule offset

-- IN held a PowerPC program. OUT holds a file that carries its blocks by their best plans and agrees with it: for every list of
-- answers to calls, every choice of the processor and every n, until the program's first access outside its segments. All
-- other names hold what they held.
pub record IsTranslated (o : Outside) (from to : List ℕ) : Type 0 where
  pub source : IsSource o from
  pub file : List ℕ
  pub plans : List BlockPlan
  pub best : HasBestPlans source.program plans
  pub carries : Carries source.program (steps_of plans) file
  pub agrees : Agrees source.program file
  pub written : IsTrue o.tells → o.held' to ≡ Some file
  pub others : OthersStand o to

-- What each cause of the command says. Where memory runs out no file has changed, unless OUT was to be replaced: a
-- replacement that is refused leaves it open.
abbrev pub Ends : Outside → List ℕ → List ℕ → Cause → Type 0
Ends o from to Done = IsTranslated o from to
Ends o from to (FileRead file) = (file ≡ 0) × (o.reads from < o.reads' from) × FilesStand o
Ends o from to (TooLong file) = (file ≡ 0) × (IsTrue o.tells → IsLonger 0x1000000 (o.held from)) × FilesStand o
Ends o from to (BadElf rule offset) = IsRefused o from rule offset × FilesStand o
Ends o from to (FileWrite file) = (file ≡ 1) × (o.replaces to < o.replaces' to) × OthersStand o to × IsSource o from
Ends o from to Memory = FilesStand o ⊎ (OthersStand o to × IsSource o from)
Ends o from to _ = ⊥

-- a file of these bytes was translated so
pub record IsAnswer (bytes : List ℕ) (output : Output) : Type 0 where
  pub program : Program
  pub loads : IsProgramOf PowerPc bytes program
  pub best : HasBestPlans program output.plans.items
  pub carries : Carries program (steps_of output.plans.items) output.file
  pub agrees : Agrees program output.file
