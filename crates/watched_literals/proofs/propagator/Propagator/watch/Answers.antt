use Rattle.std.proofs.Common.{◌++◌, ◌∷◌, [], refl, ap, ◌∙◌, arith}
use Rattle.watched_literals.proofs.Knowing.{watches-added}
use Rattle.watched_literals.proofs.propagator.Propagator.watch.Goals as goal

pub returns-clause-watches : goal.returns-clause-watches
returns-clause-watches c =
    let s = c.args.self.now in
    watches-added s _ c.args.clause.now c.args.one c.args.other c.len-place.result c.list.new.rows.items
    c.requires.stored c.requires.within c.requires.pair (omega (arith, c.len-place.ensures, s.clauses.ok.0))
    (c.in_ok-push.ensures.items ∙ ap (λ x. s.clauses.items ++ x ∷ []) c.in_ok-share.ensures)
    c.in_ok-push-2.ensures.items c.in_ok-list.ensures c.in_ok-list-2.ensures refl refl
