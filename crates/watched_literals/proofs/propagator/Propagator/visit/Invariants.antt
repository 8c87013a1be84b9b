use Rattle.std.proofs.Common.{length}
use Rattle.watched_literals.specs.Prelude.{IsReasoned}
use Rattle.watched_literals.proofs.Watching.{IsVisiting}
use Rattle.watched_literals.proofs.propagator.Propagator.visit.Given as goal

abbrev pub invariant-loop-place : goal.invariant-loop-place
invariant-loop-place l = record {
  reasons : IsReasoned l.fn.self → IsReasoned l.self;
  visiting : IsVisiting l.off l.fn.self l.self l.self.pending;
}

abbrev pub decreases-loop-place : goal.decreases-loop-place
decreases-loop-place l = length l.self.pending
