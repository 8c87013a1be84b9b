use Rattle.std.proofs.Common.{◌≡◌, ◌<◌, ◌-◌, [], length, sym, ap, ◌∙◌, arith}
use Rattle.std.proofs.lemmas.List.{get_or-map, length-map}
use Rattle.plan_form.proofs.check.label_of.Goals as goal

pub index-requires-else-place-problem-2 : goal.index-requires-else-place-problem-2
index-requires-else-place-problem-2 c =
    let rows = c.args.labels.now.values.items in
    let n : length rows ≡ c.args.problem.now.places = rw length-map at c.requires.shaped.places in
    let less : c.args.place < c.args.problem.now.places - 1 = omega (arith, c.requires.place, c.if-place-problem.false) in
    let e = get_or-map (λ row. row.items) rows c.args.place c.index-else-place-problem.result.now [] (omega (arith, n, less)) in
    let f = ap (λ row. row.items) c.index-else-place-problem.ensures in
    let g = c.requires.shaped.before c.args.place less in
    omega (arith, g, ap length (e ∙ sym f), c.index-else-place-problem.result.now.ok.0, c.requires.index)
