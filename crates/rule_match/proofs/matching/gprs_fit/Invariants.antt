use Rattle.std.proofs.Common.{◌≡◌, ℕ, ◌<◌, ◌≤◌, slice_index_or}
use Rattle.rule_match.proofs.matching.gprs_fit.Given as goal

abbrev pub invariant-loop-place : goal.invariant-loop-place
invariant-loop-place l = (k : ℕ) → k < l.place → (slice_index_or l.gprs k 0 < 32) × (l.parameters ≤ k → slice_index_or l.gprs k 0 ≡ 0)
