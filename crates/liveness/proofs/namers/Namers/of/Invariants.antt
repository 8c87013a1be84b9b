use Rattle.liveness.specs.Prelude.{AreNamers}
use Rattle.liveness.proofs.namers.Namers.of.Given as goal

abbrev pub invariant-loop-place : goal.invariant-loop-place
invariant-loop-place l = AreNamers l.flows l.place l.namers.last.items l.namers.before.items
