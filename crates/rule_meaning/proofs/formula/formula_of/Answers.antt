use Rattle.std.proofs.Common.{◌∙◌}
use Rattle.std.proofs.lemmas.Result.{IfOk-weaker}
use Rattle.rule_meaning.proofs.Standing.{sound_where}
use Rattle.rule_meaning.proofs.Which.{formula_where}
use Rattle.rule_meaning.proofs.formula.formula_of.Goals as goal

pub returns-clause-sound : goal.returns-clause-sound
returns-clause-sound c =
    let rule = c.args.rule.now in
    let placed = c.requires.goal.template.placed in
    IfOk-weaker c.formula_of.result _ _
    (λ f over unsatisfiable. sound_where c.one_instruction.ensures c.windows_run.ensures c.bodies_run.ensures c.runs_make_sound.ensures rule placed.window c.requires placed.is _ _ _ c.window_width.result _ _ _
    (c.deref.ensures.value ∙ c.in_ok-rows.ensures.exact placed.window placed.is) (c.deref-2.ensures.value ∙ c.in_ok-lines.ensures.exact) c.take-branch.ensures.exact (c.window_width.ensures.exact placed.window placed.is) c.homes.ensures.exact
    (c.deref-3.ensures.value ∙ c.in_ok-wanted.ensures.exact) c.window_width.ensures.few c.widths-bits.ensures.bits (over unsatisfiable))
    c.formula_of.ensures.memory

pub returns-clause-makes : goal.returns-clause-makes
returns-clause-makes c =
    let rule = c.args.rule.now in
    let placed = c.requires.goal.template.placed in
    IfOk-weaker c.formula_of.result _ _
    (λ f made. formula_where _ rule placed.window placed.is _ _ _ c.window_width.result _ _ _
    (c.deref.ensures.value ∙ c.in_ok-rows.ensures.exact placed.window placed.is) (c.deref-2.ensures.value ∙ c.in_ok-lines.ensures.exact) c.take-branch.ensures.exact (c.window_width.ensures.exact placed.window placed.is) c.homes.ensures.exact
    (c.deref-3.ensures.value ∙ c.in_ok-wanted.ensures.exact) c.widths-bits.ensures.bits f made)
    c.formula_of.ensures.makes
