use Rattle.std.proofs.Common.{◌++◌, ◌∷◌, [], take, sym, ap, ◌∙◌}
use Rattle.watched_literals.specs.Prelude.{without}
use Rattle.watched_literals.proofs.Trails.{take-item, differs, equals}
use Rattle.sat_core.proofs.Without.{without-kept, without-left}
use Rattle.sat_core.proofs.minimizing.without.Goals as goal
use Rattle.sat_core.proofs.minimizing.without.Goals.{then-ne+in_ok-push, else-ne}

pub loop-other-preserved : goal.loop-other-preserved
loop-other-preserved c =
    let z = c.other-item.result in
    let done = take c.loop-other.other-index c.args.clause.now in
    let more = take-item c.args.clause.now c.loop-other.other-index z c.loop-other-test.true c.other-item.is in
    elim c.if-ne.branch [
      | then-ne+in_ok-push w ↦
          ap (λ r. r.items) w.rest-is ∙ w.in_ok-push.ensures.items
          ∙ ap (λ xs. xs ++ z ∷ []) c.loop-other.invariant ∙ sym (without-kept _ done z (differs z c.args.literal (sym c.ne.ensures ∙ w.if-ne.true))) ∙ ap (without _) (sym more)
      | else-ne w ↦
          ap (λ r. r.items) w.rest-is ∙ c.loop-other.invariant ∙ sym (without-left _ done z (equals z c.args.literal (sym c.ne.ensures ∙ w.if-ne.false))) ∙ ap (without _) (sym more)
    ]
