use Rattle.std.proofs.Common.{◌≡◌, ◌≤◌, ◌+◌, ◌-◌, [], pos, take, length}
use Rattle.watched_literals.specs.Prelude.{unset, IsReasoned, IsStored, Keeps, Moves, Rises, AllWatched}
use Rattle.watched_literals.proofs.propagator.Propagator.propagate.Given as goal

abbrev pub invariant-loop-visited : goal.invariant-loop-visited
invariant-loop-visited l = record {
  keeps : Keeps l.fn.self l.self;
  reasons : IsReasoned l.fn.self → IsReasoned l.self;
  stored : IsStored l.self (pos 0) [];
  idle : l.self.pending ≡ [];
  moves : Moves l.fn.self.trail.literals l.fn.self.pairs.items l.self.pairs.items;
  rises : Rises l.fn.self.clauses.items l.fn.self.trail.literals l.self.trail.literals;
  within : l.visited ≤ length l.self.trail.literals;
  watched : AllWatched l.self.clauses.items l.self.pairs.items (take l.visited l.self.trail.literals) l.self.trail.literals;
}

abbrev pub decreases-loop-visited : goal.decreases-loop-visited
decreases-loop-visited l = unset l.self.clauses.items l.self.trail.literals + length l.self.trail.literals - l.visited
