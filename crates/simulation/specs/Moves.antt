-- The code of a move of a register map, in a plan.
use Rattle.std.specs.Prelude.{◌≡◌, ℕ}
use Rattle.machines.specs.Prelude.{Map, IsMap}
use Rattle.reg_map.specs.declared.moves.Move.{Move}
use Rattle.reg_map.specs.Prelude.{IsPossible, moved_gpr, moved, is_live, move_code, IsHomePage}
use Rattle.simulation.specs.Context.{SimulationContext}
use Rattle.code_layout.specs.Prelude.{ops_in}
use Rattle.simulation.specs.Plan.{IsMove}

-- By a possible move the ops lead to the map behind it and keep each value that is live at the next word, where the bits say
-- of its GPR whether it is.
abbrev pub MoveCodesMove : Type 0
MoveCodesMove =
    (s : SimulationContext) → IsHomePage s.area s.guest s.host → (m : Map) (step : Move) (next live : ℕ) → IsMap m → IsPossible m step →
    is_live live (moved_gpr m step) ≡ s.live next (moved_gpr m step) → IsMove s next m (moved m step) (ops_in (move_code m step live))
