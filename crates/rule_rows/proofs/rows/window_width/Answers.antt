use Rattle.std.proofs.Common.{sym, ap, ◌∙◌, arith}
use Rattle.std.specs.List.{sum_by}
use Rattle.rule_soundness.specs.Fields.{load_width}
use Rattle.rule_rows.proofs.Listed.{width_more, no_width_more, all_words}
use Rattle.rule_rows.proofs.Run.{few_loaded}
use Rattle.rule_rows.proofs.rows.window_width.Goals as goal
use Rattle.rule_rows.proofs.rows.window_width.Goals.{in-Some, in-None}

pub loop-place-preserved : goal.loop-place-preserved
loop-place-preserved c =
    let goal = c.args.goal.now in
    let place = c.loop-place.place in
    let before = c.loop-place.invariant in
    elim c.match-word_at.branch [
      | in-Some w ↦ (
        λ words are.
            let a = w.width-is in
            let b = before.0 words are in
            let e = w.load_width-width.ensures.exact in
            let m = width_more c.one_instruction.ensures goal words place w.in-Some.field-0-0 w.in-Some.instr are w.in-Some.ensures.word.0 w.in-Some.ensures.word.1 in
            omega (arith, a, b, e, m),
        let a = w.width-is in let b = before.1 in let few = w.load_width-width.ensures.few in omega (arith, a, b, few),
      )
      | in-None w ↦ (
        λ words are. w.width-is ∙ before.0 words are ∙ sym (no_width_more goal words place are (c.word_at.ensures.none w.in-None.is words are)),
        let a = w.width-is in let b = before.1 in omega (arith, a, b),
      )
    ]

pub returns-clause-exact : goal.returns-clause-exact
returns-clause-exact c = λ words is. c.loop-place.invariant.0 words is.words ∙ ap (sum_by load_width) (all_words c.args.goal.now words c.loop-place.place is.words c.loop-place-test.false)

pub returns-clause-few : goal.returns-clause-few
returns-clause-few c =
    let placed = c.requires.template.placed in
    let e = c.loop-place.invariant.0 placed.window placed.is.words ∙ ap (sum_by load_width) (all_words c.args.goal.now placed.window c.loop-place.place placed.is.words c.loop-place-test.false) in
    let few = few_loaded placed.window placed.is.one_access in
    omega (arith, e, few)
