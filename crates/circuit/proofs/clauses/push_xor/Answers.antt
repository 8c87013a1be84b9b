use Rattle.std.proofs.Common.{rules, ◌≡◌, ◌∙◌, ap, neg_ℤ, to_z, of_z, w32}
use Rattle.std.proofs.lemmas.Int.{to_z-of_z}
use Rattle.circuit.proofs.Appended.{three_alike, four_more}
use Rattle.circuit.proofs.clauses.push_xor.Goals as goal

pub returns : goal.returns
returns c =
    let v : to_z w32 (of_z w32 c.args.v) ≡ c.args.v = to_z-of_z w32 c.args.v (search rules) in
    let x : to_z w32 (of_z w32 c.args.x) ≡ c.args.x = to_z-of_z w32 c.args.x (search rules) in
    let y : to_z w32 (of_z w32 c.args.y) ≡ c.args.y = to_z-of_z w32 c.args.y (search rules) in
    let not_v : to_z w32 (of_z w32 c.opposite-not_v.result) ≡ neg_ℤ c.args.v = to_z-of_z w32 c.opposite-not_v.result (search rules) ∙ c.opposite-not_v.ensures ∙ ap neg_ℤ v in
    let not_x : to_z w32 (of_z w32 c.opposite-not_x.result) ≡ neg_ℤ c.args.x = to_z-of_z w32 c.opposite-not_x.result (search rules) ∙ c.opposite-not_x.ensures ∙ ap neg_ℤ x in
    let not_y : to_z w32 (of_z w32 c.opposite-not_y.result) ≡ neg_ℤ c.args.y = to_z-of_z w32 c.opposite-not_y.result (search rules) ∙ c.opposite-not_y.ensures ∙ ap neg_ℤ y in
    four_more c.push_three-4.result c.args.out.now.items _ _ _ _ _ _ _ _ _ _ _ _ c.in_ok-push_three.ensures c.in_ok-push_three-2.ensures c.in_ok-push_three-3.ensures c.push_three-4.ensures
    (three_alike not_v x y) (three_alike not_v not_x not_y) (three_alike v not_x y) (three_alike v x not_y)
