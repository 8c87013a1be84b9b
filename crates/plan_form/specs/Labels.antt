-- Labels of nodes, and when they certify a cost.
use Rattle.std.specs.Prelude.{◌≡◌, ℕ, ◌+◌, ◌<◌, ◌≤◌, ◌==◌, List, [], length, map, slice_index_or, if◌then◌else◌}
use Rattle.machines.specs.Prelude.{Map}
use Rattle.plan_form.specs.declared.problem.Problem.{Problem}
use Rattle.plan_form.specs.declared.problem.Labels.{Labels}
use Rattle.plan_form.specs.declared.problem.Step.{Step}
use Rattle.plan_form.specs.Plans.{Node, Leads, IsValidPlan, last}

-- the labels of each place
abbrev pub values_of : Labels → List (List ℕ)
values_of labels = map (λ row. row.items) labels.values.items

-- a map stands at this index
pub record IsAt (q : Problem) (m : Map) (i : ℕ) : Type 0 where
  pub within : i < length q.maps.items
  pub is : slice_index_or q.maps.items i m ≡ m

-- the map at an index
abbrev pub map_at : Problem → ℕ → Map
map_at q i = slice_index_or q.maps.items i q.exit

-- one label for each map at each place before the last, and one at the last place
pub record IsShaped (q : Problem) (values : List (List ℕ)) : Type 0 where
  pub places : length values ≡ q.places
  pub before : (place : ℕ) → place < last q → length (slice_index_or values place []) ≡ length q.maps.items
  pub at_end : length (slice_index_or values (last q) []) ≡ 1

-- the label of a place and the map at an index; the last place has one
abbrev pub label_at : Problem → List (List ℕ) → ℕ → ℕ → ℕ
label_at q values place i = slice_index_or (slice_index_or values place []) (if place == last q then 0 else i) 0

-- every edge is obeyed
abbrev pub IsObeyed : Problem → List (List ℕ) → Type 0
IsObeyed q values = (u : Node) (step : Step) (price : ℕ) (v : Node) (i j : ℕ) → Leads q u step price v
    → IsAt q u.map i → IsAt q v.map j → label_at q values v.place j ≤ label_at q values u.place i + price

-- the labels certify this cost
pub record Certifies (q : Problem) (values : List (List ℕ)) (cost : ℕ) : Type 0 where
  pub start : (i : ℕ) → IsAt q q.entry i → label_at q values 0 i ≡ 0
  pub edges : IsObeyed q values
  pub end : (i : ℕ) → IsAt q q.exit i → label_at q values (last q) i ≡ cost

-- the labels certify a plan: they certify its cost
abbrev pub CertifyPlan : Problem → List Step → List (List ℕ) → Type 0
CertifyPlan q steps values = (cost : ℕ) × IsValidPlan q steps cost × Certifies q values cost
