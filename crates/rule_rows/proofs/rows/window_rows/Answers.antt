use Rattle.std.proofs.Common.{take, List, [], ◌∷◌, ◌++◌, sym, ap, ◌∙◌, subst}
use Rattle.std.specs.List.{All}
use Rattle.row_circuits.specs.declared.rows.WindowRow.{WindowRow}
use Rattle.row_circuits.specs.Windows.{IsWindowRow}
use Rattle.rule_rows.specs.Rows.{rows_for}
use Rattle.rule_rows.proofs.Listed.{rows_are, row_more, no_row_more, all_rows}
use Rattle.rule_rows.proofs.rows.window_rows.Goals as goal
use Rattle.rule_rows.proofs.rows.window_rows.Goals.{in-Some+in_ok-push-in-Some, in-None}

pub loop-place-preserved : goal.loop-place-preserved
loop-place-preserved c = λ words are.
    let goal = c.args.goal.now in
    let place = c.loop-place.place in
    elim c.match-word_at.branch [
      | in-Some+in_ok-push-in-Some w ↦
          ap (λ v. v.items) w.rows-is ∙ w.in_ok-push-in-Some.ensures.items ∙ ap (λ xs. xs ++ w.row_for.result ∷ []) (c.loop-place.invariant words are) ∙ ap (λ x. take place (rows_for goal words) ++ x ∷ []) w.row_for.ensures
          ∙ sym (row_more c.one_instruction.ensures goal words place w.in-Some.guest w.in-Some.instr are w.in-Some.ensures.word.0 w.in-Some.ensures.word.1)
      | in-None w ↦ ap (λ v. v.items) w.rows-is ∙ c.loop-place.invariant words are ∙ sym (no_row_more goal words place are (c.word_at.ensures.none w.in-None.is words are))
    ]

pub returns-clause-exact : goal.returns-clause-exact
returns-clause-exact c = λ words is. c.loop-place.invariant words is.words ∙ all_rows c.args.goal.now words c.loop-place.place is.words c.loop-place-test.false

pub returns-clause-rows : goal.returns-clause-rows
returns-clause-rows c =
    let placed = c.requires.template.placed in
    subst (λ (rows : List WindowRow). All IsWindowRow rows) (sym (c.loop-place.invariant placed.window placed.is.words ∙ all_rows c.args.goal.now placed.window c.loop-place.place placed.is.words c.loop-place-test.false))
    (rows_are c.one_instruction.ensures c.args.goal.now placed.window c.requires placed.is)
