use Rattle.std.proofs.Common.{◌≤◌, ◌++◌, ◌∷◌, [], subst, sym, ap, ◌∙◌, rules, w32, SFits}
use Rattle.std.specs.List.{All}
use Rattle.std.proofs.lemmas.Int.{to_z-of_z}
use Rattle.std.proofs.lemmas.List.Elements.{All-push}
use Rattle.word_kit.specs.Prelude.{IsLiteral, variable}
use Rattle.sat_bench.proofs.reading.clause.Goals as goal

pub loop-word-preserved-in-Continue-1 : goal.loop-word-preserved-in-Continue-1
loop-word-preserved-in-Continue-1 c =
    let found = c.in-Some-literal.found in
    let items = c.loop-word.literals.items in
    let f : SFits w32 found = search rules in
    let is = c.in_ok-push.ensures.items ∙ ap (λ x. items ++ x ∷ []) (to_z-of_z w32 found f) in
    record {
      literals = subst (All IsLiteral) (sym is) (All-push IsLiteral items found c.loop-word.invariant.literals c.in-Some-literal.ensures.literal);
      named = subst (All (λ l. variable l ≤ c.args.variables)) (sym is)
          (All-push (λ l. variable l ≤ c.args.variables) items found c.loop-word.invariant.named c.in-Some-literal.ensures.named);
    }
