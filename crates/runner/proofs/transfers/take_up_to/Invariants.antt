use Rattle.std.proofs.Common.{◌≡◌, ℕ, ◌≤◌, ◌-◌, List, length, Some}
use Rattle.runner.proofs.Taking.{HasSoFar}
use Rattle.runner.proofs.transfers.take_up_to.Given as goal

abbrev pub invariant-loop-piece : goal.invariant-loop-piece
invariant-loop-piece g l = record {
  some : length l.bytes.items ≤ l.count;
  later : g.I.Source.faults l.initial.input ≤ g.I.Source.faults l.input;
  taken : (left : List ℕ) → g.I.Source.left l.initial.input ≡ Some left → HasSoFar (g.I.Source.left l.input) left l.bytes.items;
}

abbrev pub decreases-loop-piece : goal.decreases-loop-piece
decreases-loop-piece g l = l.count - length l.bytes.items
