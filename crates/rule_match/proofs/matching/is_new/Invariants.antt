use Rattle.std.proofs.Common.{◌≢◌, ℕ, ◌<◌, slice_index_or}
use Rattle.rule_match.proofs.matching.is_new.Given as goal

abbrev pub invariant-loop-before : goal.invariant-loop-before
invariant-loop-before l = (k : ℕ) → k < l.before → slice_index_or l.gprs k 0 ≢ slice_index_or l.gprs l.place 0
