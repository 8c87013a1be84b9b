use Rattle.std.proofs.Common.{ℕ, Option}
use Rattle.machines.specs.Prelude.{Program, Instr, Guest, guest_machine}
use Rattle.machines.proofs.laws.guest_stays_over.Given as goal

abbrev pub ghosts-stays_over : goal.ghosts-stays_over
ghosts-stays_over a = record { Setting = (ℕ → Option Instr) × Program; State = Guest; step = λ s. guest_machine s.0 s.1 }
