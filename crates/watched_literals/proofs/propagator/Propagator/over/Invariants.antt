use Rattle.std.proofs.Common.{◌≡◌, take}
use Rattle.watched_literals.specs.Prelude.{IsReady}
use Rattle.watched_literals.proofs.propagator.Propagator.over.Given as goal

abbrev pub invariant-loop-place : goal.invariant-loop-place
invariant-loop-place l = record {
  room : l.propagator.trail.room ≡ l.room;
  ready : IsReady (take l.place l.clauses) l.propagator;
}
