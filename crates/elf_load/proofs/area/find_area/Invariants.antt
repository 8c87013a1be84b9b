use Rattle.std.proofs.Common.{ℕ, ◌≡◌, ◌<◌, ◌≤◌, ◌-◌, ◌%◌}
use Rattle.elf_load.specs.Prelude.{IsArea}
use Rattle.elf_load.proofs.area.find_area.Given as goal

abbrev pub invariant-loop-at : goal.invariant-loop-at
invariant-loop-at l = record {
  aligned : l.at % 4096 ≡ 0;
  low : 0x08048000 ≤ l.at;
  high : l.at ≤ 0xBFFF0000;
  none_below : (lower : ℕ) → lower < l.at → ¬ IsArea l.segments lower;
}

abbrev pub decreases-loop-at : goal.decreases-loop-at
decreases-loop-at l = 0xBFFF0000 - l.at
