-- Which formula a rule has. This project's own.
use Rattle.std.specs.Prelude.{ℕ, ◌<◌, Bool, List, slice_index_or}
use Rattle.word_kit.specs.declared.formulas.Formula.{Formula}
use Rattle.circuit.specs.declared.nodes.Node.{Node}
use Rattle.machines.specs.Prelude.{Instr}
use Rattle.rule_body.specs.declared.rule.Rule.{Rule}
use Rattle.rule_body.specs.Prelude.{IsWindow, guests_of}
use Rattle.window_circuits.specs.Terms.{IsFormulaOf, rule_made}
use Rattle.rule_places.specs.Inputs.{HasBits, home_fields}
use Rattle.rule_places.specs.Ends.{ends_of, jump_of}
use Rattle.rule_rows.specs.Rows.{rows_for, window_width}
use Rattle.rule_lines.specs.Lines.{lines_for}

-- The formula of a rule: that of the gates of its inputs, the rows of its window's words, the lines of its body, the condition of its
-- branch and of the pairs of what is to be the same, made in this order.
pub record IsFormulaOfRule (eq : Node → Node → Bool) (rule : Rule) (f : Formula) : Type 0 where
  pub words : List Instr
  pub window : IsWindow (guests_of rule.goal) words
  pub widths : List ℕ
  pub bits : (k : ℕ) → k < 64 → HasBits rule.goal (window_width words) k (slice_index_or widths k 0)
  pub is : IsFormulaOf (rule_made eq (rows_for rule.goal words) (lines_for rule.goal rule.body) (jump_of rule.body.take) widths home_fields (ends_of rule.goal)) f
