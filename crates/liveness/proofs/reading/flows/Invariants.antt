use Rattle.liveness.specs.Prelude.{AreFlowsTo}
use Rattle.liveness.proofs.reading.flows.Given as goal

abbrev pub invariant-loop-place : goal.invariant-loop-place
invariant-loop-place l = AreFlowsTo l.code.first l.code.words.now l.place l.flows.items
