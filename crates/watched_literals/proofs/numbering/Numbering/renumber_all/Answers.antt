use Rattle.std.proofs.Common.{◌++◌, ◌∷◌, [], map, take, sym, subst, ap, ◌∙◌}
use Rattle.std.specs.List.{All}
use Rattle.std.proofs.lemmas.List.{take_more, map-append, get_or_read}
use Rattle.std.proofs.lemmas.List.Elements.{All-push}
use Rattle.watched_literals.specs.Prelude.{behind, IsNumbered}
use Rattle.watched_literals.proofs.Numbers.{grown-on, clauses-longer, map-clauses}
use Rattle.watched_literals.proofs.numbering.Numbering.renumber_all.Goals as goal

pub loop-clause-preserved : goal.loop-clause-preserved
loop-clause-preserved c =
    let i = c.loop-clause.clause-index in
    let old = c.loop-clause.self.variables.keys in
    let new = c.renumber.new.self.variables.keys in
    let items = c.loop-clause.items.items in
    let n = c.in_ok-renumber.field-0 in
    let grown = c.in_ok-renumber.ensures.grown in
    let is = c.in_ok-push.ensures.items in
    record {
      grown = grown-on c.args.self.now.variables.keys old new c.loop-clause.invariant.grown grown;
      numbered = subst (All (λ x. All (IsNumbered new) x)) (sym is)
          (All-push (λ x. All (IsNumbered new) x) items n (clauses-longer old new items grown c.loop-clause.invariant.numbered) c.in_ok-renumber.ensures.numbered);
      behind_them = ap (map (map (behind new))) is ∙ map-append (map (behind new)) items (n ∷ [])
          ∙ ap (λ xs. xs ++ map (behind new) n ∷ []) (map-clauses old new items grown c.loop-clause.invariant.numbered ∙ c.loop-clause.invariant.behind_them)
          ∙ ap (λ x. take i c.args.clauses.now ++ x ∷ []) (c.in_ok-renumber.ensures.behind ∙ c.as_slice.ensures ∙ get_or_read c.args.clauses.now i c.clause-item.result c.loop-clause-test.true c.clause-item.is [])
          ∙ sym (take_more c.args.clauses.now i [] c.loop-clause-test.true);
    }
