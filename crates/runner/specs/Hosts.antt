-- What the host machine shows of a run.
use Rattle.std.specs.Prelude.{◌≡◌, ℕ, List, Option}
use Rattle.machines.specs.Prelude.{Program, Outcome, Fetched, ReadsOps, Host, host_machine}
use Rattle.ia_step.specs.Prelude.{Seen, Shows}

-- the steps are those of a program, over the one reading of bytes, and its run stands so
pub record ShowsHost (m : Seen) (step : Host → Outcome Host) (o : Outcome Host) : Type 0 where
  pub ops : List ℕ → Option Fetched
  pub reads : ReadsOps ops
  pub program : Program
  pub is : step ≡ host_machine ops program
  pub shows : Shows program m o
