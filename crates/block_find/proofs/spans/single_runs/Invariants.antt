use Rattle.std.proofs.Common.{◌≡◌}
use Rattle.block_find.specs.Prelude.{singles_of}
use Rattle.block_find.proofs.spans.single_runs.Given as goal

abbrev pub invariant-loop-place : goal.invariant-loop-place
invariant-loop-place l = l.runs.items ≡ singles_of l.leads l.place
