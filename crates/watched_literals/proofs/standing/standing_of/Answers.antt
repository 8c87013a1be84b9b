use Rattle.std.proofs.Common.{◌++◌, ◌∷◌, [], neg_ℤ, take, sym, subst, ap, ◌∙◌}
use Rattle.std.specs.List.{list_any}
use Rattle.std.specs.Ordering.{int_eq}
use Rattle.watched_literals.specs.Prelude.{Leaves}
use Rattle.watched_literals.proofs.Trails.{listed, unlisted, item-inside, take-item, differs, equals, leaves-same, leaves-all}
use Rattle.watched_literals.proofs.Knowing.{open-two, leaves-first, leaves-again}
use Rattle.watched_literals.proofs.standing.standing_of.Goals as goal
use Rattle.watched_literals.proofs.standing.standing_of.Goals.{then-not-holds+in-None, then-not-holds+in-Some+else-ne, else-not-holds}

pub returns-then-holds : goal.returns-then-holds
returns-then-holds c = (
  c.literal-item.result,
  item-inside c.args.clause.now c.loop-literal.literal-index c.literal-item.result c.loop-literal-test.true c.literal-item.is,
  listed c.args.trail.now.literals c.literal-item.result (sym c.if-holds.ensures),
)

pub returns-then-ne : goal.returns-then-ne
returns-then-ne c =
    let z = c.literal-item.result in
    let trail = c.args.trail.now.literals in
    open-two trail c.args.clause.now c.loop-literal.literal-index c.in-Some.other z
    (subst (Leaves trail (take c.loop-literal.literal-index c.args.clause.now)) c.in-Some.is c.loop-literal.invariant)
    (item-inside c.args.clause.now c.loop-literal.literal-index z c.loop-literal-test.true c.literal-item.is)
    (unlisted trail (neg_ℤ z) (ap (λ x. list_any (int_eq x) trail) (sym c.opposite.ensures) ∙ sym c.if-not-holds.ensures))
    (differs c.in-Some.other z (sym c.ne.ensures ∙ c.if-ne.true))

pub loop-literal-preserved : goal.loop-literal-preserved
loop-literal-preserved c =
    let z = c.literal-item.result in
    let trail = c.args.trail.now.literals in
    let done = take c.loop-literal.literal-index c.args.clause.now in
    rw (take-item c.args.clause.now c.loop-literal.literal-index z c.loop-literal-test.true c.literal-item.is) (elim c.if-not-holds.branch [
      | then-not-holds+in-None w ↦
          subst (Leaves trail (done ++ z ∷ [])) (sym w.left-is)
          (leaves-first trail done z
          (subst (Leaves trail done) w.in-None.is c.loop-literal.invariant)
          (unlisted trail z (sym c.if-holds.ensures))
          (unlisted trail (neg_ℤ z) (ap (λ x. list_any (int_eq x) trail) (sym c.opposite.ensures) ∙ sym w.if-not-holds.ensures)))
      | then-not-holds+in-Some+else-ne w ↦
          subst (Leaves trail (done ++ z ∷ [])) (sym w.left-is)
          (leaves-again trail done z w.in-Some.other (equals w.in-Some.other z (sym w.ne.ensures ∙ w.if-ne.false))
          (subst (Leaves trail done) w.in-Some.is c.loop-literal.invariant))
      | else-not-holds w ↦
          subst (Leaves trail (done ++ z ∷ [])) (sym w.left-is)
          (leaves-same trail done z c.loop-literal.left c.loop-literal.invariant
          (listed trail (neg_ℤ z) (ap (λ x. list_any (int_eq x) trail) (sym c.opposite.ensures) ∙ sym w.if-not-holds.ensures)))
    ])

pub returns-in-Some-left : goal.returns-in-Some-left
returns-in-Some-left c =
    subst (Leaves c.args.trail.now.literals c.args.clause.now) c.in-Some-left.is
    (leaves-all c.args.trail.now.literals c.args.clause.now c.loop-literal.literal-index c.loop-literal.left c.loop-literal-test.false c.loop-literal.auto.literal-index-end c.loop-literal.invariant)
