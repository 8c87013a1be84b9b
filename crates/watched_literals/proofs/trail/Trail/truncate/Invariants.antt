use Rattle.std.proofs.Common.{◌≡◌, ◌≤◌, ◌-◌, length, take}
use Rattle.watched_literals.proofs.trail.Trail.truncate.Given as goal

abbrev pub invariant-loop-more : goal.invariant-loop-more
invariant-loop-more l = record {
  room : l.self.room ≡ l.fn.self.room;
  literals : l.self.literals ≡ take (length l.fn.self.literals - (l._more - l.count)) l.fn.self.literals;
  reasons : l.self.reasons ≡ l.fn.self.reasons;
  past : length l.fn.self.literals ≤ l.count → l._more ≤ l.count;
}
