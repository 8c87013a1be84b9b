-- The least walks to the last node, by cost and then by the number of steps: a step of price p weighs 512 * p + 1.
use Rattle.std.specs.Prelude.{◌≡◌, ◌⊎◌, ℕ, ◌+◌, ◌-◌, ◌*◌, ◌/◌, ◌%◌, ◌<◌, ◌≤◌, List, [], length, slice_index_or}
use Rattle.plan_form.specs.declared.problem.Problem.{Problem}
use Rattle.plan_form.specs.declared.problem.Step.{Step}
use Rattle.plan_form.specs.Prelude.{Node, IsFull, Leaves, IsWalk, last, exit_node}
use Rattle.tile_plan.specs.declared.table.TheConstants.{NEVER}
use Rattle.tile_plan.specs.declared.arcs.Arc.{Arc}
use Rattle.tile_plan.specs.Arcs.{node_at}

-- some walk has this weight
pub record HasWalk (q : Problem) (moves : ℕ) (u : Node) (weight : ℕ) : Type 0 where
  pub steps : List Step
  pub cost : ℕ
  pub walk : IsWalk q moves u steps cost
  pub weighs : weight ≡ 512 * cost + length steps

-- no walk weighs less, and where the weight isn't NEVER some walk has it
pub record IsLeast (q : Problem) (moves : ℕ) (u : Node) (weight : ℕ) : Type 0 where
  pub bound : (steps : List Step) (cost : ℕ) → IsWalk q moves u steps cost → weight ≤ 512 * cost + length steps
  pub reached : weight < NEVER → HasWalk q moves u weight

-- no least weight at a place, with so many moves left, is above this
abbrev pub weight_limit : Problem → ℕ → ℕ → ℕ
weight_limit q place left = 524288 * (7 * (last q - place) + left)

-- the least weights at a place for each map, none above the limit but NEVER
pub record IsRow (q : Problem) (place moves limit : ℕ) (row : List ℕ) : Type 0 where
  pub len : length row ≡ length q.maps.items
  pub least : (i : ℕ) → i < length q.maps.items → IsLeast q moves (node_at q place i) (slice_index_or row i 0)
  pub small : (i : ℕ) → i < length q.maps.items → slice_index_or row i 0 < NEVER → slice_index_or row i 0 ≤ limit
  pub high : (i : ℕ) → i < length q.maps.items → slice_index_or row i 0 ≤ NEVER

-- the weight of a place and a map without a step: 0 at the last node, else NEVER
pub record IsEndWeight (q : Problem) (u : Node) (weight : ℕ) : Type 0 where
  pub end : u ≡ exit_node q → weight ≡ 0
  pub value : (weight ≡ NEVER) ⊎ ((weight ≡ 0) × (u ≡ exit_node q))

pub record AreEndWeights (q : Problem) (place : ℕ) (row : List ℕ) : Type 0 where
  pub len : length row ≡ length q.maps.items
  pub ends : (i : ℕ) → i < length q.maps.items → IsEndWeight q (node_at q place i) (slice_index_or row i 0)

-- what is known of the least weight behind an edge
pub record IsBeyond (q : Problem) (moves limit : ℕ) (arc : Arc) (b : ℕ) : Type 0 where
  pub least : (after : ℕ) → Leaves moves arc.step after → IsLeast q after (node_at q arc.place arc.to) b
  pub onward : b < NEVER → (after : ℕ) × Leaves moves arc.step after
  pub small : b < NEVER → b + 524288 ≤ limit

-- Each place has seven rows: the one at 7 * d + k is that of the place at d before the last, with k moves left in a row.
pub record IsTable (q : Problem) (table : List (List ℕ)) : Type 0 where
  pub few : length table ≤ 7 * q.places
  pub rows : (r : ℕ) → r < length table → IsRow q (last q - r / 7) (r % 7) (524288 * r) (slice_index_or table r [])

-- The table has the rows of a full problem that are needed at a place with so many moves left: those of the places behind it,
-- and its own with fewer moves left.
pub record IsFilled (q : Problem) (table : List (List ℕ)) (place left : ℕ) : Type 0 where
  pub full : IsFull q
  pub within : place ≤ last q
  pub few : left ≤ 6
  pub are : IsTable q table
  pub enough : 7 * (last q - place) + left ≤ length table
