use Rattle.std.proofs.Common.{sym, ap, ◌∙◌, take}
use Rattle.std.specs.List.{list_any}
use Rattle.std.specs.Ordering.{int_eq}
use Rattle.watched_literals.proofs.Trails.{item-inside, differs, fresh-before}
use Rattle.watched_literals.proofs.levels.Levels.late.Goals as goal

pub returns-then-place-start : goal.returns-then-place-start
returns-then-place-start c = (
  item-inside c.args.clause.now c.loop-other.other-index c.other-item.result c.loop-other-test.true c.other-item.is,
  differs c.other-item.result c.args.literal (sym c.ne.ensures ∙ c.if-ne.true),
  fresh-before c.args.self.now.propagator.trail.literals c.in-Some.place c.args.start _ c.if-place-start.true
      (ap (λ x. list_any (int_eq x) (take c.in-Some.place c.args.self.now.propagator.trail.literals)) (sym c.opposite.ensures) ∙ c.in-Some.ensures.first),
)
