use Rattle.std.proofs.Common.{◌≤◌, ◌++◌, ◌∷◌, [], subst, sym, ap, ◌∙◌, rules, w32, SFits}
use Rattle.std.specs.List.{All}
use Rattle.std.proofs.lemmas.Int.{to_z-of_z}
use Rattle.std.proofs.lemmas.List.Elements.{All-push}
use Rattle.word_kit.specs.Prelude.{IsLiteral, variable}
use Rattle.sat_tests.proofs.searches.clause.Goals as goal

pub loop-number-preserved : goal.loop-number-preserved
loop-number-preserved c =
    let f : SFits w32 c.literal.result = search rules in
    let is = c.in_ok-push.ensures.items ∙ ap (λ x. c.loop-number.literals.items ++ x ∷ []) (to_z-of_z w32 c.literal.result f) in
    record {
      literals = subst (All IsLiteral) (sym is) (All-push IsLiteral c.loop-number.literals.items c.literal.result c.loop-number.invariant.literals c.literal.ensures.literal);
      named = subst (All (λ x. variable x ≤ 123)) (sym is)
          (All-push (λ x. variable x ≤ 123) c.loop-number.literals.items c.literal.result c.loop-number.invariant.named c.literal.ensures.named);
    }
