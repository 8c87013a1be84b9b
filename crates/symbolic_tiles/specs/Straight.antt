-- How the rows of instructions go on that are no flow words. This project's own.
use Rattle.std.specs.Prelude.{◌≡◌, ℕ, true, false, Contains}
use Rattle.machines.specs.Prelude.{Outside, Instr, Outcome, Goes, Asks, Ends, Rights, Guest, effect_of, guest_acts, behind}
use Rattle.row_laws.specs.FlowWords.{is_flow}
use Rattle.symbolic_tiles.specs.Row.{window_of, WritesHeld}

-- a row goes on to this address, or ends outside
abbrev pub IsStraight : ℕ → Outcome Guest → Type 0
IsStraight next (Goes g) = g.next ≡ next
IsStraight next (Asks call after) = ⊥
IsStraight next (Ends e) = e ≡ Outside

-- An instruction that is no flow word goes on to the next word, or ends outside.
abbrev pub RowsAreStraight : Type 0
RowsAreStraight = (i : Instr) (rights : Rights) (g : Guest) → is_flow i ≡ false → IsStraight (behind g.next) (guest_acts rights i (effect_of i g) g)

-- each byte that an instruction loads is held, and each that it stores is held and may be written
pub record AccessIsInside (i : Instr) (rights : Rights) (g : Guest) : Type 0 where
  pub loads : (a : ℕ) → Contains ((window_of i).loads g) a → rights.held a ≡ true
  pub stores : (a : ℕ) → Contains ((window_of i).stores g) a → rights.held a ≡ true × rights.writable a ≡ true

-- Where it goes on, its access is inside.
abbrev pub AccessesAreInside : Type 0
AccessesAreInside = (i : Instr) (rights : Rights) (g g' : Guest) → is_flow i ≡ false → WritesHeld rights → guest_acts rights i (effect_of i g) g ≡ Goes g' → AccessIsInside i rights g
