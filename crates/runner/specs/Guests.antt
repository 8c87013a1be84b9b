-- What the guest machine shows of a run.
use Rattle.std.specs.Prelude.{◌≡◌, ℕ, Option}
use Rattle.machines.specs.Prelude.{Program, Outcome, Instr, ReadsWords, Guest, guest_machine}
use Rattle.ppc_step.specs.Prelude.{Seen, Shows}

-- the steps are those of a program, over the one reading of words, and its run stands so
pub record ShowsGuest (m : Seen) (step : Guest → Outcome Guest) (o : Outcome Guest) : Type 0 where
  pub words : ℕ → Option Instr
  pub reads : ReadsWords words
  pub program : Program
  pub is : step ≡ guest_machine words program
  pub shows : Shows program m o
