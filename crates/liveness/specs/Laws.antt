-- What is live before a word, by what is live before the words behind it.
use Rattle.std.specs.Prelude.{◌≡◌, ℕ, ◌+◌, ◌<◌, ◌⊎◌, ◌↔◌, List, false, Contains, length, slice_index}
use Rattle.machines.specs.Prelude.{Instr, IsWordOf, locations_read, locations_written}
use Rattle.row_laws.specs.FlowWords.{is_flow}
use Rattle.liveness.specs.Live.{IsRead, IsWritten, Leads, IsLive}

-- the word reads the location, or doesn't write it and leads to a word before which it is live
abbrev pub IsLiveHere : ℕ → List ℕ → ℕ → ℕ → Type 0
IsLiveHere first words l k = ((k < length words) × IsRead words k l)
    ⊎ ((s : ℕ) × Leads first words k s × ¬ (IsWritten words k l) × IsLive first words l s)

abbrev pub LiveByBehind : Type 0
LiveByBehind = (first : ℕ) (words : List ℕ) (l k : ℕ) → IsLive first words l k ↔ IsLiveHere first words l k

-- before an instruction that is no flow word, and behind which a word stands
abbrev pub LiveByNext : Type 0
LiveByNext = (first : ℕ) (words : List ℕ) (l k : ℕ) (instr : Instr) → k + 1 < length words → IsWordOf (slice_index words k) instr → is_flow instr ≡ false
    → IsLive first words l k ↔ Contains (locations_read instr) l ⊎ (IsLive first words l (k + 1) × ¬ (Contains (locations_written instr) l))
