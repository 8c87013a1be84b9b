use Rattle.std.proofs.Common.{ℕ, Option}
use Rattle.machines.specs.Prelude.{Program, Instr, Guest, guest_machine}
use Rattle.machines.proofs.laws.guest_keeps_calls.Given as goal

abbrev pub ghosts-keeps_calls : goal.ghosts-keeps_calls
ghosts-keeps_calls a = record { Setting = (ℕ → Option Instr) × Program; State = Guest; step = λ s. guest_machine s.0 s.1 }
