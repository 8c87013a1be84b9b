use Rattle.std.proofs.Common.{◌∙◌, ◌++◌, ◌∷◌, [], ap, sym}
use Rattle.block_find.specs.Prelude.{alone}
use Rattle.block_find.proofs.SingleWords.{single_more, single_less}
use Rattle.block_find.proofs.spans.single_runs.Goals as goal
use Rattle.block_find.proofs.spans.single_runs.Goals.{then-not-leads-place+in_ok-push, else-not-leads-place}

pub loop-place-preserved : goal.loop-place-preserved
loop-place-preserved c = elim c.if-not-leads-place.branch [
  | then-not-leads-place+in_ok-push w ↦ ap (λ v. v.items) w.runs-is ∙ w.in_ok-push.ensures.items ∙ ap (λ xs. xs ++ alone c.loop-place.place ∷ []) c.loop-place.invariant
      ∙ sym (single_more c.args.leads.now c.loop-place.place w.if-not-leads-place.true)
  | else-not-leads-place w ↦ ap (λ v. v.items) w.runs-is ∙ c.loop-place.invariant
      ∙ sym (single_less c.args.leads.now c.loop-place.place w.if-not-leads-place.false)
]
