-- The marks, edges and indirect sequences of items that stand in the code. This project's own.
use Rattle.std.specs.Prelude.{◌≡◌, ℕ, ◌+◌, ◌*◌, ◌^◌, ◌<◌, ◌≤◌, List, [], ◌∷◌, length}
use Rattle.symbolic_tiles.specs.declared.flow_op.FlowOp.{FlowOp}
use Rattle.symbolic_tiles.specs.declared.flow_op.FlowOp.TheVariants.{Mark, Edge, Leap}
use Rattle.machines.specs.Prelude.{Map, Op}
use Rattle.code_layout.specs.Prelude.{Moves, Places, IsPlaceable, item_length, before_mark}
use Rattle.simulation.specs.Prelude.{SimulationContext, IsMove}
use Rattle.symbolic_tiles.specs.Prelude.{EdgeCode}

-- each op is in the profile over each home page
abbrev pub ArePlaceable : List Op → Type 0
ArePlaceable [] = Unit {0}
ArePlaceable (op ∷ ops) = IsPlaceable op × ArePlaceable ops

-- where the marks of items stand that begin at an address
abbrev pub labels_of : (ℕ → Moves) → ℕ → List FlowOp → ℕ → ℕ
labels_of switch here items mark = here + before_mark switch items mark

-- where the code of each of their edges begins
abbrev pub edges_of : (ℕ → Moves) → ℕ → List FlowOp → List EdgeCode
edges_of switch here [] = []
edges_of switch here (Edge target ∷ items) = record { target = target; at = here } ∷ edges_of switch (here + item_length switch (Edge target)) items
edges_of switch here (Mark mark ∷ items) = edges_of switch here items
edges_of switch here (item ∷ items) = edges_of switch (here + item_length switch item) items

-- and where the indirect sequences stand
abbrev pub leaps_of : (ℕ → Moves) → ℕ → List FlowOp → List ℕ
leaps_of switch here [] = []
leaps_of switch here (Leap ∷ items) = here ∷ leaps_of switch (here + item_length switch Leap) items
leaps_of switch here (Mark mark ∷ items) = leaps_of switch here items
leaps_of switch here (item ∷ items) = leaps_of switch (here + item_length switch item) items

-- where the parts of a context's file stand; edges lead to the blocks by these moves
abbrev pub places_of : SimulationContext → (ℕ → Moves) → Places
places_of s switch = record { area = s.area; hold = s.hold; table = s.table; first = s.first; count = s.count; targets = s.target; switch = switch }

-- moves that lead from a map to the map under which the block at a guest address begins
abbrev pub IsSwitch : SimulationContext → ℕ → Map → Moves → Type 0
IsSwitch s next map [] = map ≡ s.entry_map next
IsSwitch s next map ((to, ops) ∷ moves) = IsMove s next map to ops × ArePlaceable ops × IsSwitch s next to moves

-- from a map on, the switch to each guest address
abbrev pub AreSwitches : SimulationContext → Map → (ℕ → Moves) → Type 0
AreSwitches s map switch = (next : ℕ) → (length (switch next) ≤ 6) × IsSwitch s next map (switch next)

-- the parts of a context's file stand below 2^32
pub record ArePlaced (s : SimulationContext) : Type 0 where
  pub area : s.area + 4096 ≤ 2 ^ 32
  pub hold : s.hold < 2 ^ 32
  pub table : s.table < 2 ^ 32
  pub first : s.first < 2 ^ 32
  pub count : 4 * s.count < 2 ^ 32
  pub targets : (address : ℕ) → s.target address < 2 ^ 32
