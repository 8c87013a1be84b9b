use Rattle.std.proofs.Common.{◌++◌, ◌∷◌, [], take, sym, subst, ap, ◌∙◌}
use Rattle.std.proofs.lemmas.List.{take_more, take_all, get_or_read}
use Rattle.watched_literals.specs.Prelude.{IsReady}
use Rattle.watched_literals.proofs.propagator.Propagator.over.Goals as goal

pub loop-place-preserved : goal.loop-place-preserved
loop-place-preserved c =
    let cs = c.args.clauses.now in
    let i = c.loop-place.place in
    let is = get_or_read cs i c.index-clauses-place.result c.loop-place-test.true c.index-clauses-place.is [] in
    record {
      room = c.in_ok-add.ensures.room ∙ c.loop-place.invariant.room;
      ready = subst (λ ks. IsReady ks c.add.new.self) (ap (λ x. take i cs ++ x ∷ []) is ∙ sym (take_more cs i [] c.loop-place-test.true))
          (c.in_ok-add.ensures.ready (take i cs) c.loop-place.invariant.ready);
    }

pub returns-clause-ready : goal.returns-clause-ready
returns-clause-ready c =
    subst (λ ks. IsReady ks c.loop-place.propagator) (take_all c.loop-place.place c.args.clauses.now c.loop-place-test.false) c.loop-place.invariant.ready
