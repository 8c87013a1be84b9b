use Rattle.std.proofs.Common.{◌≡◌, ℕ, ◌+◌, ◌<◌, ◌≤◌, List, length, slice_index_or}
use Rattle.machines.specs.Prelude.{Instr}
use Rattle.rule_body.specs.Prelude.{guests_of, AreGuests}
use Rattle.rule_soundness.specs.Prelude.{AreWordsOf}
use Rattle.rule_match.specs.Matching.{register_read}
use Rattle.rule_match.proofs.reading.gprs_at.Given as goal

abbrev pub invariant-loop-place : goal.invariant-loop-place
invariant-loop-place l =
    (length l.gprs ≡ 6)
    × ((words found : List Instr) → AreGuests (guests_of l.goal) words → AreWordsOf l.window found → (k : ℕ) → k < l.place → slice_index_or l.gprs k 0 ≡ register_read words found (k + 1))
    × ((k : ℕ) → l.place ≤ k → slice_index_or l.gprs k 0 ≡ 0)
