use Rattle.std.proofs.Common.{ℕ, List, Option}
use Rattle.machines.specs.Prelude.{Program, Instr, rights_of, code_of, Fetched, Guest, guest_machine, Host, host_machine, narrow_machine}
use Rattle.machines.proofs.Clean.{is_narrower}
use Rattle.machines.proofs.laws.agrees_if_narrowly.Given as goal

abbrev pub ghosts-agrees_in_larger-M-Machine : goal.ghosts-agrees_in_larger-M-Machine
ghosts-agrees_in_larger-M-Machine a = record { Setting = (ℕ → Option Instr) × Program; State = Guest; step = λ s. guest_machine s.0 s.1 }

abbrev pub ghosts-agrees_in_larger-T-TwoSpaces : goal.ghosts-agrees_in_larger-T-TwoSpaces
ghosts-agrees_in_larger-T-TwoSpaces a = record {
  Setting = (List ℕ → Option Fetched) × Program;
  State = Host;
  narrow = λ s. narrow_machine s.0 s.1;
  wide = λ s. host_machine s.0 s.1;
  is_narrower = λ s. is_narrower (rights_of s.1) (code_of s.1) s.0;
}
