use Rattle.std.proofs.Common.{rules, ◌≡◌, ◌∙◌, ap, neg_ℤ, to_z, of_z, w32}
use Rattle.std.proofs.lemmas.Int.{to_z-of_z}
use Rattle.circuit.proofs.Appended.{two_alike, three_alike, three_more}
use Rattle.circuit.proofs.clauses.push_and.Goals as goal

pub returns : goal.returns
returns c =
    let v : to_z w32 (of_z w32 c.args.v) ≡ c.args.v = to_z-of_z w32 c.args.v (search rules) in
    let x : to_z w32 (of_z w32 c.args.x) ≡ c.args.x = to_z-of_z w32 c.args.x (search rules) in
    let y : to_z w32 (of_z w32 c.args.y) ≡ c.args.y = to_z-of_z w32 c.args.y (search rules) in
    let not_v : to_z w32 (of_z w32 c.opposite-not_v.result) ≡ neg_ℤ c.args.v = to_z-of_z w32 c.opposite-not_v.result (search rules) ∙ c.opposite-not_v.ensures ∙ ap neg_ℤ v in
    let not_x : to_z w32 (of_z w32 c.opposite.result) ≡ neg_ℤ c.args.x = to_z-of_z w32 c.opposite.result (search rules) ∙ c.opposite.ensures ∙ ap neg_ℤ x in
    let not_y : to_z w32 (of_z w32 c.opposite-2.result) ≡ neg_ℤ c.args.y = to_z-of_z w32 c.opposite-2.result (search rules) ∙ c.opposite-2.ensures ∙ ap neg_ℤ y in
    three_more c.push_three.result c.args.out.now.items _ _ _ _ _ _ _ _ _ c.in_ok-push_two.ensures c.in_ok-push_two-2.ensures c.push_three.ensures
    (two_alike not_v x) (two_alike not_v y) (three_alike v not_x not_y)
