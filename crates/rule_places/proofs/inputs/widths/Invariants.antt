use Rattle.std.proofs.Common.{◌≡◌, ℕ, ◌<◌, ◌≤◌, length, slice_index_or}
use Rattle.rule_places.specs.Inputs.{HasBits}
use Rattle.rule_places.proofs.inputs.widths.Given as goal

abbrev pub invariant-loop-place : goal.invariant-loop-place
invariant-loop-place l =
    (length l.widths ≡ 64) × ((k : ℕ) → k < l.place → HasBits l.goal l.loaded k (slice_index_or l.widths k 0)) × ((k : ℕ) → k < 64 → slice_index_or l.widths k 0 ≤ 32)
