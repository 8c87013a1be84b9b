use Rattle.block_find.proofs.Dividing.{IsOpen}
use Rattle.block_find.proofs.spans.leader_runs.Given as goal

abbrev pub invariant-loop-place : goal.invariant-loop-place
invariant-loop-place l = IsOpen l.code.words.now l.leads l.runs.items l.at l.place
