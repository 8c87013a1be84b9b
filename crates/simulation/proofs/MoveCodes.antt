-- The code of a move leads from its map to the next.
use Rattle.std.proofs.Common.{◌≡◌, ℕ, ◌*◌, ◌<◌, Bool, true, false, [], ◌∷◌, Some, None, if◌then◌else◌, sym, subst, arith}
use Rattle.std.proofs.lemmas.Bool.Decides.{nat_tests}
use Rattle.machines.specs.Prelude.{Map, MovTo, MovFrom, Abs}
use Rattle.reg_map.specs.Prelude.{home, slot_register, moved_gpr, moved, move_op, is_live, MovesOne, IsHomePage}
use Rattle.reg_map.specs.declared.moves.Move.{Move}
use Rattle.reg_map.specs.declared.moves.Move.TheVariants.{Drop, Take}
use Rattle.reg_map.proofs.Moving.{moves_move_one}
use Rattle.code_layout.specs.Prelude.{ops_in}
use Rattle.simulation.specs.Prelude.{SimulationContext, IsMove, MoveCodesMove}
use Rattle.simulation.proofs.Moves.{moves_keep}

home_word : (g : ℕ) → g < 32 → home g ≡ 4 * g
home_word g lt = grind (arith, nat_tests)

module _ (s : SimulationContext) (page : IsHomePage s.area s.guest s.host) (m : Map) (next : ℕ) where
  live_moves : (step : Move) → MovesOne m step → IsMove s next m (moved m step) (move_op m step ∷ [])
  live_moves (Drop slot) one =
      let g = moved_gpr m (Drop slot) in
      let keep = (moves_keep s page m (moved m (Drop slot)) g one.is_map one.gpr one.others next).0 (slot_register slot) one.goes.0 one.goes.1 in
      subst (λ (k : ℕ). IsMove s next m (moved m (Drop slot)) (MovTo (Abs k) (slot_register slot) ∷ [])) (home_word g one.gpr) keep
  live_moves (Take slot g) one =
      let keep = (moves_keep s page m (moved m (Take slot g)) g one.is_map one.gpr one.others next).1 (slot_register slot) one.goes.0 one.goes.1 in
      subst (λ (k : ℕ). IsMove s next m (moved m (Take slot g)) (MovFrom (slot_register slot) (Abs k) ∷ [])) (home_word g one.gpr) keep

  by_live : (step : Move) → MovesOne m step → (alive : Bool) → alive ≡ s.live next (moved_gpr m step) → IsMove s next m (moved m step) (ops_in (if alive then Some (move_op m step) else None))
  by_live step one true e = live_moves step one
  by_live step one false e = (moves_keep s page m (moved m step) (moved_gpr m step) one.is_map one.gpr one.others next).2 (sym e)

pub move_codes_move : MoveCodesMove
move_codes_move s page m step next live is_map can e = by_live s page m next step (moves_move_one m step is_map can) (is_live live (moved_gpr m step)) e
