use Rattle.std.proofs.Common.{◌≡◌, List, ℤ, take}
use Rattle.watched_literals.specs.Prelude.{IsDenied, AreReasoned}
use Rattle.watched_literals.proofs.propagator.deny.Given as goal

abbrev pub invariant-loop-literal : goal.invariant-loop-literal
invariant-loop-literal l = record {
  room : l.trail.room ≡ l.fn.trail.room;
  reasons : (clauses : List (List ℤ)) → AreReasoned clauses l.fn.trail → AreReasoned clauses l.trail;
  denied : IsDenied l.clause (take l.literal-index l.clause) l.fn.trail.literals l.trail.literals;
}
