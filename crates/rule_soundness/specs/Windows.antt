-- What instructions do one after another, as a window. This project's own.
use Rattle.std.specs.Prelude.{ℕ, Bool, true, false, List, [], ◌∷◌, ◌++◌, Option}
use Rattle.std.specs.List.{flat_map}
use Rattle.machines.specs.Prelude.{Instr, locations_written, Condition, Outcome, Goes, Asks, Ends, Rights, Guest, effect_of, guest_acts}
use Rattle.symbolic_tiles.specs.Prelude.{Window, loaded, stored}
use Rattle.simulation.specs.Prelude.{rows_of}

-- every address is held and may be written
abbrev pub everywhere : Rights
everywhere = record { held = λ a. true; writable = λ a. true }

-- what the rest makes of the state behind a row
abbrev pub behind_row : {T : Type 0} → T → (Guest → T) → Outcome Guest → T
behind_row none rest (Goes g) = rest g
behind_row none rest (Asks call next) = none
behind_row none rest (Ends e) = none

-- the addresses of the bytes that the rows load and store in turn, where each of them may
unfoldable pub loads_of : List Instr → Guest → List ℕ
loads_of [] g = []
loads_of (i ∷ is) g = let e = effect_of i g in loaded e.kind e.width e.address ++ behind_row [] (loads_of is) (guest_acts everywhere i e g)

unfoldable pub stores_of : List Instr → Guest → List ℕ
stores_of [] g = []
stores_of (i ∷ is) g = let e = effect_of i g in stored e.kind e.width e.address ++ behind_row [] (stores_of is) (guest_acts everywhere i e g)

-- whether the last of them is a branch that is taken
unfoldable pub taken_of : List Instr → Guest → Bool
taken_of [] g = false
taken_of (i ∷ []) g = (effect_of i g).taken
taken_of (i ∷ j ∷ is) g = behind_row false (taken_of (j ∷ is)) (guest_acts everywhere i (effect_of i g) g)

-- what the instructions do together, where these locations are dead behind them and a last branch's condition is left in
-- the flags
abbrev pub window : List Instr → (ℕ → Bool) → Option Condition → Window
window is dead condition = record {
  outcome = λ rights g. rows_of rights is g;
  loads = loads_of is;
  stores = stores_of is;
  writes = flat_map locations_written is;
  dead = dead;
  condition = condition;
  taken = taken_of is;
}
