use Rattle.std.proofs.Common.{neg_ℤ, take, inl, inr, sym, subst, ap, ◌∙◌}
use Rattle.std.specs.List.{Contains, list_any}
use Rattle.std.specs.Ordering.{int_eq}
use Rattle.std.proofs.lemmas.List.Elements.{Contains-push_cases}
use Rattle.watched_literals.proofs.Trails.{listed, take-item, equals}
use Rattle.watched_literals.proofs.watches.unfalse.Goals as goal
use Rattle.watched_literals.proofs.watches.unfalse.Goals.{else-ne-via-then-ne+else-not-holds, else-ne-via-else-ne}

pub loop-literal-preserved : goal.loop-literal-preserved
loop-literal-preserved c = λ l h ne.
    let m = Contains-push_cases (take c.loop-literal.literal-index c.args.clause.now) c.literal-item.result l
    (subst (λ xs. Contains xs l) (take-item c.args.clause.now c.loop-literal.literal-index c.literal-item.result c.loop-literal-test.true c.literal-item.is) h) in
    elim m [
      | inl before ↦ c.loop-literal.invariant l before ne
      | inr same ↦ elim c.else-ne.branch [
        | else-ne-via-then-ne+else-not-holds w ↦
            subst (λ x. Contains c.args.trail.now.literals (neg_ℤ x)) same
            (listed c.args.trail.now.literals (neg_ℤ c.literal-item.result) (ap (λ x. list_any (int_eq x) c.args.trail.now.literals) (sym w.opposite.ensures) ∙ sym w.holds.ensures ∙ w.if-not-holds.false))
        | else-ne-via-else-ne w ↦ absurd (ne (sym same ∙ equals c.literal-item.result c.args.but (sym c.ne.ensures ∙ w.if-ne.false)))
      ]
    ]
