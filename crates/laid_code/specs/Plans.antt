-- The items of a block's plan, and when its steps are right. This project's own.
use Rattle.std.specs.Prelude.{◌≡◌, ℕ, cond, List, [], ◌∷◌, ◌++◌, Some, All, Contains}
use Rattle.machines.specs.Prelude.{Map, condition_number}
use Rattle.symbolic_tiles.specs.declared.flow_op.FlowOp.{FlowOp}
use Rattle.symbolic_tiles.specs.declared.flow_op.FlowOp.TheVariants.{Jump, Mark, Edge, Leap}
use Rattle.code_layout.specs.Prelude.{no_registers, plain, IsLaid}
use Rattle.simulation.specs.Prelude.{behind_all, SimulationContext, PlanStep, Move, Tile, BranchTile, FlowTile, IsMove, IsTile, IsUnneeded, LeadsTo, IsFlowTile}
use Rattle.laid_code.specs.Items.{ArePlaceable}
use Rattle.symbolic_tiles.specs.Prelude.{AreMarked}

-- The items of steps, the first of whose words has a guest address: the ops, and the edges at the end.
abbrev pub plan_items : ℕ → List PlanStep → List FlowOp
plan_items w [] = Edge w ∷ []
plan_items w (Move to ops ∷ steps) = plain ops ++ plan_items w steps
plan_items w (Tile words window ops ∷ steps) = plain ops ++ plan_items (behind_all w words) steps
plan_items w (BranchTile words window ops condition target ∷ steps) = plain ops ++ (Jump (condition_number condition) 0 ∷ Edge (behind_all w words) ∷ Mark 0 ∷ Edge target ∷ [])
plan_items w (FlowTile word items ∷ steps) = items

-- the map under which steps end that begin under a map
abbrev pub last_map : Map → List PlanStep → Map
last_map from [] = from
last_map from (Move to ops ∷ steps) = last_map to steps
last_map from (Tile words window ops ∷ steps) = last_map from steps
last_map from (_ ∷ steps) = from

-- Under a map, each step does what it is for, where the first of their words has a guest address.
abbrev pub AreRight : SimulationContext → Map → ℕ → List PlanStep → Type 0
AreRight s from w [] = Unit {0}
AreRight s from w (Move to ops ∷ steps) = IsMove s w from to ops × ArePlaceable ops × AreRight s to w steps
AreRight s from w (Tile words window ops ∷ steps) =
    IsTile s from w words window ops × ArePlaceable ops × IsUnneeded s window (behind_all w words) × LeadsTo s w words (λ g. behind_all w words)
    × AreRight s from (behind_all w words) steps
AreRight s from w (BranchTile words window ops condition target ∷ steps) =
    IsTile s from w words window ops × ArePlaceable ops × (window.condition ≡ Some condition) × IsUnneeded s window target × IsUnneeded s window (behind_all w words)
    × LeadsTo s w words (λ g. cond (window.taken g) target (behind_all w words))
AreRight s from w (FlowTile word items ∷ steps) = IsFlowTile s from w word items × All IsLaid items × AreMarked items × (Contains items Leap → from ≡ no_registers)
