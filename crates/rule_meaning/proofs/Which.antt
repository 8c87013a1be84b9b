-- Which formula a rule has.
use Rattle.std.proofs.Common.{◌≡◌, ℕ, ◌<◌, Bool, List, Option, slice_index_or, subst}
use Rattle.word_kit.specs.declared.formulas.Formula.{Formula}
use Rattle.circuit.specs.declared.nodes.Node.{Node}
use Rattle.machines.specs.Prelude.{Instr, Op}
use Rattle.rule_body.specs.declared.rule.Rule.{Rule}
use Rattle.rule_body.specs.Prelude.{IsWindow, guests_of}
use Rattle.place_circuits.specs.declared.fields.Field.{Field}
use Rattle.row_circuits.specs.declared.rows.WindowRow.{WindowRow}
use Rattle.row_circuits.specs.declared.lines.BodyLine.{BodyLine}
use Rattle.window_circuits.specs.declared.pairs.End.{End}
use Rattle.window_circuits.specs.Terms.{IsFormulaOf, rule_made}
use Rattle.rule_places.specs.Inputs.{HasBits, home_fields}
use Rattle.rule_places.specs.Ends.{ends_of, jump_of}
use Rattle.rule_rows.specs.Rows.{rows_for, window_width}
use Rattle.rule_lines.specs.Lines.{lines_for}
use Rattle.rule_meaning.specs.Formula.{IsFormulaOfRule}

-- the formula of rows and lines that are the rule's is the rule's
pub formula_where : (eq : Node → Node → Bool) (rule : Rule) (words : List Instr) → IsWindow (guests_of rule.goal) words →
    (rows : List WindowRow) (lines : List BodyLine) (take : Option Op) (width : ℕ) (widths : List ℕ) (homes : List Field) (wanted : List End) →
    rows ≡ rows_for rule.goal words → lines ≡ lines_for rule.goal rule.body → take ≡ jump_of rule.body.take → width ≡ window_width words → homes ≡ home_fields → wanted ≡ ends_of rule.goal →
    ((k : ℕ) → k < 64 → HasBits rule.goal width k (slice_index_or widths k 0)) → (f : Formula) → IsFormulaOf (rule_made eq rows lines take widths homes wanted) f → IsFormulaOfRule eq rule f
formula_where eq rule words is_window rows lines take width widths homes wanted er el et ew eh ee bits f made =
    let is_rows = rows_for rule.goal words in
    let is_lines = lines_for rule.goal rule.body in
    let is_take = jump_of rule.body.take in
    let a = subst (λ rs. IsFormulaOf (rule_made eq rs lines take widths homes wanted) f) er made in
    let b = subst (λ ls. IsFormulaOf (rule_made eq is_rows ls take widths homes wanted) f) el a in
    let c = subst (λ t. IsFormulaOf (rule_made eq is_rows is_lines t widths homes wanted) f) et b in
    let d = subst (λ hs. IsFormulaOf (rule_made eq is_rows is_lines is_take widths hs wanted) f) eh c in
    record {
      words = words;
      window = is_window;
      widths = widths;
      bits = λ k lt. subst (λ w. HasBits rule.goal w k (slice_index_or widths k 0)) ew (bits k lt);
      is = subst (λ es. IsFormulaOf (rule_made eq is_rows is_lines is_take widths home_fields es) f) ee d;
    }
