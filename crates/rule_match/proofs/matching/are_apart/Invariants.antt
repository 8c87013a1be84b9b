use Rattle.std.proofs.Common.{◌≢◌, ℕ, ◌<◌, slice_index_or}
use Rattle.rule_match.proofs.matching.are_apart.Given as goal

abbrev pub invariant-loop-place : goal.invariant-loop-place
invariant-loop-place l = (j k : ℕ) → j < k → k < l.place → slice_index_or l.gprs j 0 ≢ slice_index_or l.gprs k 0
