-- The numbers of the slots in which the parameters of a rule stand. This project's own.
use Rattle.std.specs.Prelude.{◌≡◌, ℕ, ◌<◌, ◌≤◌, Bool, true, false, List, take, length, slice_get, slice_index_or, Option, Some, None}
use Rattle.machines.specs.Prelude.{Map}
use Rattle.reg_map.specs.Prelude.{slot_of}
use Rattle.rule_body.specs.Prelude.{slot_count}
use Rattle.rule_soundness.specs.Prelude.{slot_register}

-- each parameter stands in a slot, or at home, as the rule has it
abbrev pub IsPlace : Bool → Option ℕ → Type 0
IsPlace true None = ⊥
IsPlace true (Some r) = Unit {0}
IsPlace false None = Unit {0}
IsPlace false (Some r) = ⊥

abbrev pub ArePlaces : List Bool → Map → List ℕ → Type 0
ArePlaces slots map gprs = (k : ℕ) (s : Bool) → slice_get slots k ≡ Some s → IsPlace s (slot_of map (slice_index_or gprs k 0))

-- three numbers of slots, 0 past those of the parameters
pub record AreSlotNumbers (slots : List Bool) (map : Map) (gprs numbers : List ℕ) : Type 0 where
  pub three : length numbers ≡ 3
  pub below : (k : ℕ) → slice_index_or numbers k 0 < 3
  pub past : (k : ℕ) → slot_count slots ≤ k → slice_index_or numbers k 0 ≡ 0
  pub in_slots : (k : ℕ) → slice_get slots k ≡ Some true → slot_of map (slice_index_or gprs k 0) ≡ Some (slot_register (slice_index_or numbers (slot_count (take k slots)) 0))
  pub at_home : (k : ℕ) → slice_get slots k ≡ Some false → slot_of map (slice_index_or gprs k 0) ≡ None

-- the number is that of the slot with this register
abbrev pub IsSlotNumber : Option ℕ → Option ℕ → Type 0
IsSlotNumber None None = Unit {0}
IsSlotNumber (Some r) (Some n) = (n < 3) × (slot_register n ≡ r)
IsSlotNumber _ _ = ⊥
