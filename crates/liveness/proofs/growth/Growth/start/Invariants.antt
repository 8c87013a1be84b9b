use Rattle.liveness.specs.Prelude.{IsStart}
use Rattle.liveness.proofs.growth.Growth.start.Given as goal

abbrev pub invariant-loop-place : goal.invariant-loop-place
invariant-loop-place l = IsStart l.flows l.place l.growth.sets.items l.growth.waiting.items l.growth.stack.items
