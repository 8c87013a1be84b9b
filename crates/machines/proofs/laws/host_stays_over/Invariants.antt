use Rattle.std.proofs.Common.{ℕ, List, Option}
use Rattle.machines.specs.Prelude.{Program, Fetched, Host, host_machine}
use Rattle.machines.proofs.laws.host_stays_over.Given as goal

abbrev pub ghosts-stays_over : goal.ghosts-stays_over
ghosts-stays_over a = record { Setting = (List ℕ → Option Fetched) × Program; State = Host; step = λ s. host_machine s.0 s.1 }
