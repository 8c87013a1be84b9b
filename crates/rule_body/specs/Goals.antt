-- Goals: windows in arrays, with what is past the counts left empty.
use Rattle.std.specs.Prelude.{◌≡◌, ℕ, ◌≤◌, Bool, false, List, [], ◌∷◌, take, drop}
use Rattle.std.specs.List.{AllByRecursion}
use Rattle.rule_body.specs.declared.goal.Goal.{Goal}
use Rattle.rule_body.specs.declared.goal.Guest.{Guest}
use Rattle.rule_body.specs.Templates.{Template, IsTemplate}

-- the guest words, each with whether it is free
abbrev pub guests : List ℕ → List Bool → List Guest
guests (w ∷ words) (f ∷ free) = record { word = w; free = f } ∷ guests words free
guests _ _ = []

abbrev pub guests_of : Goal → List Guest
guests_of goal = take goal.count (guests goal.words goal.free)

abbrev pub template_of : Goal → Template
template_of goal = record { guests = guests_of goal; slots = take goal.parameters goal.slots; dead = goal.dead.bits }

-- the counts are within the arrays, and nothing stands past them
pub record IsTidy (goal : Goal) : Type 0 where
  pub count : goal.count ≤ 3
  pub parameters : goal.parameters ≤ 6
  pub words : AllByRecursion (λ w. w ≡ 0) (drop goal.count goal.words)
  pub free : AllByRecursion (λ f. f ≡ false) (drop goal.count goal.free)
  pub slots : AllByRecursion (λ s. s ≡ false) (drop goal.parameters goal.slots)

pub record IsGoal (goal : Goal) : Type 0 where
  pub tidy : IsTidy goal
  pub template : IsTemplate (template_of goal)
