-- From runs over numbers to the soundness of a rule. This project's own.
use Rattle.std.specs.Prelude.{ℕ, ◌<◌, ◌≤◌, ◌^◌, List, slice_index_or}
use Rattle.machines.specs.Prelude.{Instr}
use Rattle.rule_body.specs.declared.rule.Rule.{Rule}
use Rattle.rule_body.specs.Prelude.{IsRule, IsWindow, guests_of}
use Rattle.rule_soundness.specs.Prelude.{Match, IsSound}
use Rattle.row_circuits.specs.declared.rows.WindowRow.{WindowRow}
use Rattle.row_circuits.specs.declared.lines.BodyLine.{BodyLine}
use Rattle.window_circuits.specs.Rules.{IsSoundOver}
use Rattle.rule_places.specs.Inputs.{HasBits, home_fields}
use Rattle.rule_places.specs.Ends.{ends_of, jump_of}
use Rattle.rule_places.specs.Runs.{RunsWindow, RunsBody}

-- a constant has 16 bits
abbrev pub AreConstants : Match → Type 0
AreConstants m = (j : ℕ) → m.constant j < 2 ^ 16

-- Rows and lines over numbered places that stand for a rule: they do what its window and its body do for all constants, and the
-- inputs are the rule's.
pub record StandFor (rule : Rule) (rows : List WindowRow) (lines : List BodyLine) (width : ℕ) (widths : List ℕ) : Type 0 where
  pub few : width ≤ 4
  pub bits : (k : ℕ) → k < 64 → HasBits rule.goal width k (slice_index_or widths k 0)
  pub window : (words : List Instr) (m : Match) → IsWindow (guests_of rule.goal) words → AreConstants m → RunsWindow rule.goal words m width rows
  pub body : (m : Match) → AreConstants m → RunsBody rule.goal rule.body m lines

-- Where the lines end as the rows do, for all inputs and choices, the rule is sound.
abbrev pub RunsMakeSound : Type 0
RunsMakeSound =
    (rule : Rule) (rows : List WindowRow) (lines : List BodyLine) (width : ℕ) (widths : List ℕ) → IsRule rule → StandFor rule rows lines width widths →
    IsSoundOver rows lines (jump_of rule.body.take) widths home_fields (ends_of rule.goal) → IsSound rule
