-- The words of a window as rows over numbered places: parameter k at place k - 1, the constant of word j at place 20 + j. This
-- project's own.
use Rattle.std.specs.Prelude.{ℕ, ◌+◌, ◌-◌, ◌==◌, if◌then◌else◌, Bool, List, [], ◌∷◌, Option, Some, None, sum_by}
use Rattle.machines.specs.Prelude.{Instr}
use Rattle.rule_body.specs.declared.line.Hole.{Hole}
use Rattle.rule_body.specs.declared.line.Hole.TheVariants.{S, Z, H}
use Rattle.rule_body.specs.declared.goal.Guest.{Guest}
use Rattle.rule_body.specs.declared.goal.Goal.{Goal}
use Rattle.rule_body.specs.Prelude.{guests_of}
use Rattle.rule_soundness.specs.Fields.{a_field, b_field, s_field, immediate, Reading, Signed, Unsigned, Upper, number_read, load_width, written}
use Rattle.place_circuits.specs.declared.constants.Number.{Number}
use Rattle.place_circuits.specs.declared.constants.Number.TheVariants.{Written, Filled}
use Rattle.place_circuits.specs.declared.sources.Source.{Source}
use Rattle.place_circuits.specs.declared.sources.Source.TheVariants.{Zero, Place, Own}
use Rattle.row_circuits.specs.declared.rows.WindowRow.{WindowRow}

-- what a register field reads: the place of its parameter, and 0 where there is no field, or 0 stands in the place of a base
abbrev pub register_source : Option ℕ → Source
register_source None = Zero
register_source (Some p) = if p == 0 then Zero else Place (p - 1)

-- the hole that a constant fills as the row reads its immediate
abbrev pub hole_of : Reading → Hole
hole_of (Signed imm) = S
hole_of (Unsigned imm) = Z
hole_of (Upper imm) = H

-- the number of an immediate: that of the constant of word j where the word is free
abbrev pub immediate_number : ℕ → Bool → Reading → Number
immediate_number j free reading = if free then Filled (hole_of reading) (20 + j) else Written (number_read reading)

-- the immediate, or else the register of bits 16 to 20
abbrev pub second_source : ℕ → Bool → Option Reading → Option ℕ → Source
second_source j free None field = register_source field
second_source j free (Some reading) field = Own (immediate_number j free reading)

-- where a result for a register goes
abbrev pub register_target : Option ℕ → Option ℕ
register_target None = None
register_target (Some p) = Some (p - 1)

-- the row of word j of a window
abbrev pub row_for : ℕ → Guest → Instr → WindowRow
row_for j guest i = record {
  instr = i;
  width = load_width i;
  a = register_source (a_field i);
  b = second_source j guest.free (immediate i) (b_field i);
  s = register_source (s_field i);
  d_to = register_target (written i).d;
  a_to = register_target (written i).a;
}

-- the rows of a window from word j on
unfoldable pub rows_from : ℕ → List Guest → List Instr → List WindowRow
rows_from j (guest ∷ guests) (i ∷ is) = row_for j guest i ∷ rows_from (j + 1) guests is
rows_from j guests is = []

-- the rows of a goal with these words
abbrev pub rows_for : Goal → List Instr → List WindowRow
rows_for goal words = rows_from 0 (guests_of goal) words

-- how many bytes the load of a window has, of which there is one at most
abbrev pub window_width : List Instr → ℕ
window_width words = sum_by load_width words
