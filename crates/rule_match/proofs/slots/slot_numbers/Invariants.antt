use Rattle.std.proofs.Common.{◌≡◌, ℕ, ◌<◌, ◌≤◌, true, false, Some, None, length, take, slice_get, slice_index_or}
use Rattle.reg_map.specs.Prelude.{slot_of}
use Rattle.rule_body.specs.Prelude.{slot_count}
use Rattle.rule_soundness.specs.Prelude.{slot_register}
use Rattle.rule_match.proofs.slots.slot_numbers.Given as goal

abbrev pub invariant-loop-place : goal.invariant-loop-place
invariant-loop-place l =
    (l.count ≡ slot_count (take l.place l.slots)) × (length l.numbers ≡ 3)
    × ((k : ℕ) → slice_index_or l.numbers k 0 < 3) × ((k : ℕ) → l.count ≤ k → slice_index_or l.numbers k 0 ≡ 0)
    × ((k : ℕ) → k < l.place → slice_get l.slots k ≡ Some true → slot_of l.map (slice_index_or l.gprs k 0) ≡ Some (slot_register (slice_index_or l.numbers (slot_count (take k l.slots)) 0)))
    × ((k : ℕ) → k < l.place → slice_get l.slots k ≡ Some false → slot_of l.map (slice_index_or l.gprs k 0) ≡ None)
