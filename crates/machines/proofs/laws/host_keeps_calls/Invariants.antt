use Rattle.std.proofs.Common.{ℕ, List, Option}
use Rattle.machines.specs.Prelude.{Program, Fetched, Host, host_machine}
use Rattle.machines.proofs.laws.host_keeps_calls.Given as goal

abbrev pub ghosts-keeps_calls : goal.ghosts-keeps_calls
ghosts-keeps_calls a = record { Setting = (List ℕ → Option Fetched) × Program; State = Host; step = λ s. host_machine s.0 s.1 }
