use Rattle.std.proofs.Common.{◌++◌, ◌∷◌, [], pos, map, take, get_or, sym, subst, ap, ◌∙◌, rules, w32, SFits}
use Rattle.std.proofs.lemmas.Int.{to_z-of_z}
use Rattle.std.specs.List.{All}
use Rattle.std.proofs.lemmas.List.{take_more, map-append}
use Rattle.std.proofs.lemmas.List.Elements.{All-push}
use Rattle.watched_literals.specs.Prelude.{behind, IsNumbered}
use Rattle.watched_literals.proofs.Numbers.{grown-on, all-longer, map-longer}
use Rattle.watched_literals.proofs.numbering.Numbering.renumber.Goals as goal

pub loop-literal-preserved : goal.loop-literal-preserved
loop-literal-preserved c =
    let z = get_or c.args.clause.now c.loop-literal.literal-index (pos 0) in
    let f : SFits w32 z = search rules in
    let e = to_z-of_z w32 z f in
    let old = c.loop-literal.self.variables.keys in
    let new = c.number.new.self.variables.keys in
    let numbers = c.loop-literal.numbers.items in
    let n = c.in_ok-number.field-0 in
    let grown = c.in_ok-number.ensures.grown in
    let is = c.in_ok-push.ensures.items in
    record {
      grown = grown-on c.args.self.now.variables.keys old new c.loop-literal.invariant.grown grown;
      numbered = subst (All (IsNumbered new)) (sym is)
          (All-push (IsNumbered new) numbers n (all-longer old new numbers grown c.loop-literal.invariant.numbered) c.in_ok-number.ensures.numbered);
      behind_them = ap (map (behind new)) is ∙ map-append (behind new) numbers (n ∷ [])
          ∙ ap (λ xs. xs ++ behind new n ∷ []) (map-longer old new numbers grown c.loop-literal.invariant.numbered ∙ c.loop-literal.invariant.behind_them)
          ∙ ap (λ x. take c.loop-literal.literal-index c.args.clause.now ++ x ∷ []) (c.in_ok-number.ensures.behind ∙ e)
          ∙ sym (take_more c.args.clause.now c.loop-literal.literal-index (pos 0) c.loop-literal-test.true);
    }
