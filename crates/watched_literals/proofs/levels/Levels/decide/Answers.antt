use Rattle.std.proofs.Common.{refl, sym, ◌∙◌, true≢false}
use Rattle.watched_literals.proofs.Stacking.{leveled-of, stacked-at, stacked-decided}
use Rattle.watched_literals.proofs.levels.Levels.decide.Goals as goal

pub assume-requires-clause-complete : goal.assume-requires-clause-complete
assume-requires-clause-complete c =
    (stacked-at c.requires.0 c.args.self.now (sym c.if-is_refuted.ensures) c.requires.1).complete c.if-self.false

pub returns-clause-leveled : goal.returns-clause-leveled
returns-clause-leveled c = λ known h.
    let l = c.args.self.now in
    let a = c.in_ok-self.ensures in
    leveled-of known (record { propagator = c.assume.new.self; root = l.root; starts = c.push.new.self; is_failed = c.in_ok-self.field-0 })
    (a.refuted ∙ sym c.if-is_refuted.ensures)
    (stacked-decided known l _ c.len.result c.len.ensures refl c.in_ok-push.ensures.items c.if-self.false a.extends a.watched (λ root k. a.above known root k)
    (λ is. a.complete (λ yes. true≢false (sym yes ∙ is))) (stacked-at known l (sym c.if-is_refuted.ensures) h))
