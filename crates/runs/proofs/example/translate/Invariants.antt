use Rattle.std.proofs.Common.{take}
use Rattle.runs.specs.Prelude.{Anywhere, Guest, Host, guest_step, host_step, guarded_step}
use Rattle.runs.proofs.Carried.{Meets, is_bounded, advances, is_narrower, SoFar}
use Rattle.runs.proofs.example.translate.Given as goal

abbrev pub ghosts-agreement : goal.ghosts-agreement
ghosts-agreement a = record {
  Setting = Unit {0};
  Guest = Guest;
  Host = Host;
  guest = λ _. guest_step;
  host = λ _. guarded_step;
  IsClean = λ _. Anywhere;
  Meets = λ _. Meets;
  is_bounded = λ _. is_bounded;
  advances = λ _. advances;
}

abbrev pub ghosts-agrees_in_larger-M-Machine : goal.ghosts-agrees_in_larger-M-Machine
ghosts-agrees_in_larger-M-Machine a = record { Setting = Unit {0}; State = Guest; step = λ _. guest_step }

abbrev pub ghosts-agrees_in_larger-T-TwoSpaces : goal.ghosts-agrees_in_larger-T-TwoSpaces
ghosts-agrees_in_larger-T-TwoSpaces a = record { Setting = Unit {0}; State = Host; narrow = λ _. guarded_step; wide = λ _. host_step; is_narrower = λ _. is_narrower }

abbrev pub invariant-loop-word : goal.invariant-loop-word
invariant-loop-word l = SoFar (take l.word-index l.words) l.place l.ops.items
