use Rattle.std.proofs.Common.{refl, subst, ◌∙◌}
use Rattle.watched_literals.specs.Prelude.{IsImplied}
use Rattle.watched_literals.proofs.Stacking.{leveled-of, stacked-at, stacked-implied}
use Rattle.watched_literals.proofs.levels.Levels.learn_here.Goals as goal

pub imply-requires-clause-complete : goal.imply-requires-clause-complete
imply-requires-clause-complete c =
    (stacked-at c.requires.leveled.0 c.args.self.now c.in-Some.ensures.open_root c.requires.leveled.1).complete c.in-Some.ensures.going

pub imply-requires-clause-ready : goal.imply-requires-clause-ready
imply-requires-clause-ready c =
    let a = (stacked-at c.requires.leveled.0 c.args.self.now c.in-Some.ensures.open_root c.requires.leveled.1).above in
    (c.requires.leveled.0, a.0, a.2)

pub returns-in_ok-self-in-Some-clause-leveled : goal.returns-in_ok-self-in-Some-clause-leveled
returns-in_ok-self-in-Some-clause-leveled c = λ known h.
    let l = c.args.self.now in
    let is = subst (λ xs. IsImplied xs l c.in-Some.pair) c.as_slice.ensures c.in-Some.ensures in
    let i = c.in_ok-self-in-Some.ensures.implies in
    leveled-of _ (record { propagator = c.imply.new.self; root = l.root; starts = l.starts; is_failed = c.in_ok-self-in-Some.field-0 }) (i.refuted ∙ is.open_root)
    (stacked-implied known c.args.clause.now c.in-Some.pair.other l _ is.late.0 c.in_ok-self-in-Some.field-0 is.late.1 is.late.2 refl refl refl i
    (stacked-at known l is.open_root h))
