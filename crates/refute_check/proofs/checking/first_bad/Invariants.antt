use Rattle.std.proofs.Common.{◌≡◌, ℕ, ◌<◌, take, ◌++◌}
use Rattle.watched_literals.specs.Prelude.{IsReady}
use Rattle.refute_check.specs.Refutations.{StepFollows}
use Rattle.refute_check.proofs.checking.first_bad.Given as goal

abbrev pub invariant-loop-place : goal.invariant-loop-place
invariant-loop-place l = record {
  room : l.propagator.trail.room ≡ l.room;
  ready : IsReady (l.formula ++ take l.place l.steps) l.propagator;
  follow : (k : ℕ) → k < l.place → StepFollows l.formula l.steps k;
}
