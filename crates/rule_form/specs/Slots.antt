-- The places of parameters in an array.
use Rattle.std.specs.Prelude.{◌≡◌, ◌≤◌, false, drop}
use Rattle.std.specs.List.{AllByRecursion}
use Rattle.rule_form.specs.declared.fields.Slots.{Slots}

-- the count is within the array, and nothing stands past it
pub record AreSlots (s : Slots) : Type 0 where
  pub count : s.count ≤ 6
  pub clear : AllByRecursion (λ x. x ≡ false) (drop s.count s.slots)
