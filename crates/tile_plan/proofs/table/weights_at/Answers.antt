use Rattle.std.proofs.Common.{◌≡◌, ◌<◌, ◌+◌, ◌-◌, ◌*◌, ◌/◌, [], length, get_or, map, sym, subst, ap, ◌∙◌, arith}
use Rattle.std.proofs.lemmas.List.{get_or-map, length-map}
use Rattle.tile_plan.specs.Prelude.{IsRow, weight_limit}
use Rattle.tile_plan.proofs.Leasts.{row-as, go-row}
use Rattle.tile_plan.proofs.table.weights_at.Goals as goal

pub move_weights-requires-clause-base : goal.move_weights-requires-clause-base
move_weights-requires-clause-base c =
    let q = c.args.problem.now in
    let t = c.requires.table in
    let table = c.args.table.now.items in
    let rows = map (λ row. row.items) table in
    let d = q.places - 1 - c.args.place in
    let len = length-map table (λ row. row.items) in
    let within : 7 * d < length rows = omega (arith, t.enough, c.if-left-eq0.false) in
    let by : (7 * d) / 7 ≡ d = omega arith in
    let row = row-as q t.full.0 t.full.1 t.full.2 rows t.are (7 * d) c.args.place 0 within (omega (arith, by, t.within)) (omega arith) in
    let e = get_or-map (λ row. row.items) table (7 * d) c.index.result.now [] (omega (arith, len, within)) in
    let is = e ∙ sym (ap (λ row. row.items) c.index.ensures) ∙ sym c.as_slice-base.ensures.value in
    let same : 524288 * (7 * d) ≡ weight_limit q c.args.place 0 = omega arith in
    subst (λ xs. IsRow q c.args.place 0 (weight_limit q c.args.place 0) xs) is (subst (λ n. IsRow q c.args.place 0 n (get_or rows (7 * d) [])) same row)

pub move_weights-requires-clause-fewer : goal.move_weights-requires-clause-fewer
move_weights-requires-clause-fewer c =
    let q = c.args.problem.now in
    let t = c.requires.table in
    let table = c.args.table.now.items in
    let rows = map (λ row. row.items) table in
    let left = c.args.left in
    let r = 7 * (q.places - 1 - c.args.place) + left - 1 in
    let len = length-map table (λ row. row.items) in
    let row = go-row q t.full.0 t.full.1 t.full.2 rows t.are c.args.place left t.few (omega (arith, c.if-left-eq0.false)) t.within t.enough in
    let e = get_or-map (λ row. row.items) table r c.index-2.result.now [] (omega (arith, len, row.0)) in
    let is = e ∙ sym (ap (λ row. row.items) c.index-2.ensures) ∙ sym c.as_slice-fewer.ensures.value in
    let same : 524288 * r ≡ weight_limit q c.args.place (left - 1) = omega (arith, c.if-left-eq0.false) in
    subst (λ xs. IsRow q c.args.place (left - 1) (weight_limit q c.args.place (left - 1)) xs) is (subst (λ n. IsRow q c.args.place (left - 1) n (get_or rows r [])) same row.1)
