-- Moves, this project's own: a GPR goes from a cache register, its slot, to its home word, or from there to a slot. ebx, esi
-- and edi are the slots 0, 1 and 2.
use Rattle.std.specs.Prelude.{◌≡◌, ◌≢◌, ℕ, ◌<◌, ◌/◌, ◌%◌, ◌^◌, ◌==◌, Bool, Option, Some, None, if◌then◌else◌}
use Rattle.machines.specs.Prelude.{Map, IsMap, Op, MovTo, MovFrom, Abs, ebx, esi, edi}
use Rattle.reg_map.specs.Home.{gpr_home}
use Rattle.reg_map.specs.Place.{slot_of}
use Rattle.reg_map.specs.declared.moves.Move.{Move}
use Rattle.reg_map.specs.declared.moves.Move.TheVariants.{Drop, Take}

abbrev pub slot_register : ℕ → ℕ
slot_register slot = if slot == 0 then ebx else if slot == 1 then esi else edi

abbrev pub content : Map → ℕ → Option ℕ
content m slot = if slot == 0 then m.ebx else if slot == 1 then m.esi else m.edi

abbrev pub with_content : Map → ℕ → Option ℕ → Map
with_content m slot held = if slot == 0 then record m { ebx = held } else if slot == 1 then record m { esi = held } else record m { edi = held }

-- the GPR that a full slot holds
abbrev pub held_in : Option ℕ → ℕ
held_in None = 0
held_in (Some g) = g

-- A slot that is dropped is full; one that takes a GPR is empty, and the GPR is in no slot.
abbrev pub IsPossible : Map → Move → Type 0
IsPossible m (Drop slot) = (slot < 3) × (content m slot ≢ None)
IsPossible m (Take slot g) = (slot < 3) × (g < 32) × (content m slot ≡ None) × (slot_of m g ≡ None)

-- the GPR that moves
abbrev pub moved_gpr : Map → Move → ℕ
moved_gpr m (Drop slot) = held_in (content m slot)
moved_gpr m (Take slot g) = g

-- the map behind a move
abbrev pub moved : Map → Move → Map
moved m (Drop slot) = with_content m slot None
moved m (Take slot g) = with_content m slot (Some g)

-- its op, between the slot and the home
abbrev pub move_op : Map → Move → Op
move_op m (Drop slot) = MovTo (Abs (gpr_home (held_in (content m slot)))) (slot_register slot)
move_op m (Take slot g) = MovFrom (slot_register slot) (Abs (gpr_home g))

-- a location is in the set of these bits
abbrev pub is_live : ℕ → ℕ → Bool
is_live bits x = bits / 2 ^ x % 2 == 1

-- where the GPR is dead there is none
abbrev pub move_code : Map → Move → ℕ → Option Op
move_code m step live = if is_live live (moved_gpr m step) then Some (move_op m step) else None

-- Where the GPR that moves stands before and behind a move.
abbrev pub Goes : Map → Move → Type 0
Goes m (Drop slot) = (slot_of m (moved_gpr m (Drop slot)) ≡ Some (slot_register slot)) × (slot_of (moved m (Drop slot)) (moved_gpr m (Drop slot)) ≡ None)
Goes m (Take slot g) = (slot_of m g ≡ None) × (slot_of (moved m (Take slot g)) g ≡ Some (slot_register slot))

-- A possible move leads to a map, and moves its GPR alone.
pub record MovesOne (m : Map) (step : Move) : Type 0 where
  pub is_map : IsMap (moved m step)
  pub gpr : moved_gpr m step < 32
  pub goes : Goes m step
  pub others : (x : ℕ) → x ≢ moved_gpr m step → slot_of (moved m step) x ≡ slot_of m x

abbrev pub PossibleMovesMoveOne : Type 0
PossibleMovesMoveOne = (m : Map) (step : Move) → IsMap m → IsPossible m step → MovesOne m step
