use Rattle.std.proofs.Common.{◌≡◌, ◌<◌, ◌*◌, refl, sym, ap, ◌∙◌, subst, arith, length, map, []}
use Rattle.std.proofs.lemmas.List.{append-nil}
use Rattle.std.proofs.lemmas.List.{get_or-map, length-map}
use Rattle.plan_form.specs.Prelude.{entry_node}
use Rattle.plan_form.proofs.Costs.{leaves-once}
use Rattle.tile_plan.specs.Prelude.{AreArcs, node_at, IsLeast, IsFirst}
use Rattle.tile_plan.proofs.Firsts.{walked-tight, walked-on, walk-begins, walked-as, first-end}
use Rattle.tile_plan.proofs.walk.first_walk.Goals as goal

pub loop-weight-init : goal.loop-weight-init
loop-weight-init c =
    let q = c.args.problem.now in
    let full = c.requires.full in
    let len : length (map (λ row. row.items) c.args.table.now.items) ≡ 7 * q.places = rw length-map c.requires.len in
    let plan = c.requires.some in
    walked-as q [] c.new-steps.result.items 0 c.args.entry 6 6 _ c.weight_at-weight.result c.new-steps.ensures.items refl c.weight_at-weight.ensures
    (walk-begins q full.0 full.1 full.2 _ c.requires.table len c.args.entry c.requires.entry plan.0 plan.1 plan.2)

pub first_edge-arc-requires-clause-table : goal.first_edge-arc-requires-clause-table
first_edge-arc-requires-clause-table c =
    let h = c.loop-weight.invariant in
    let len : length (map (λ row. row.items) c.args.table.now.items) ≡ 7 * c.args.problem.now.places = rw length-map c.requires.len in
    record {
      full = c.requires.full;
      within = h.place_in;
      few = h.few;
      are = c.requires.table;
      enough = omega (arith, len, h.place_in, h.few, c.requires.full.2.low);
    }

pub first_edge-arc-requires-clause-arcs : goal.first_edge-arc-requires-clause-arcs
first_edge-arc-requires-clause-arcs c =
    let q = c.args.problem.now in
    let place = c.loop-weight.place in
    let inside : place < q.places = omega (arith, c.loop-weight.invariant.place_in, c.requires.full.2.low) in
    let len : length c.args.arcs.now.items ≡ q.places = rw length-map at c.requires.arcs.len in
    let e = get_or-map (λ arcs. arcs.items) c.args.arcs.now.items place c.index.result.now [] (omega (arith, len, inside)) in
    subst (AreArcs q place) (e ∙ sym (ap (λ arcs. arcs.items) c.index.ensures) ∙ sym c.as_slice.ensures.value) (c.requires.arcs.places place inside)

pub first_edge-arc-requires-clause-some : goal.first_edge-arc-requires-clause-some
first_edge-arc-requires-clause-some c =
    let q = c.args.problem.now in
    let full = c.requires.full in
    let place = c.loop-weight.place in
    let inside : place < q.places = omega (arith, c.loop-weight.invariant.place_in, full.2.low) in
    let arcs_len : length c.args.arcs.now.items ≡ q.places = rw length-map at c.requires.arcs.len in
    let e = get_or-map (λ arcs. arcs.items) c.args.arcs.now.items place c.index.result.now [] (omega (arith, arcs_len, inside)) in
    let all = subst (AreArcs q place) (e ∙ sym (ap (λ arcs. arcs.items) c.index.ensures) ∙ sym c.as_slice.ensures.value) (c.requires.arcs.places place inside) in
    let len : length (map (λ row. row.items) c.args.table.now.items) ≡ 7 * q.places = rw length-map c.requires.len in
    walked-tight q full.0 full.1 full.2 _ c.requires.table len _ place c.loop-weight.index c.loop-weight.left c.loop-weight.weight c.as_slice.result.now all c.loop-weight.invariant c.loop-weight-test.true

pub loop-weight-preserved : goal.loop-weight-preserved
loop-weight-preserved c =
    let q = c.args.problem.now in
    let full = c.requires.full in
    let place = c.loop-weight.place in
    let inside : place < q.places = omega (arith, c.loop-weight.invariant.place_in, full.2.low) in
    let arcs_len : length c.args.arcs.now.items ≡ q.places = rw length-map at c.requires.arcs.len in
    let e = get_or-map (λ arcs. arcs.items) c.args.arcs.now.items place c.index.result.now [] (omega (arith, arcs_len, inside)) in
    let all = subst (AreArcs q place) (e ∙ sym (ap (λ arcs. arcs.items) c.index.ensures) ∙ sym c.as_slice.ensures.value) (c.requires.arcs.places place inside) in
    let len : length (map (λ row. row.items) c.args.table.now.items) ≡ 7 * q.places = rw length-map c.requires.len in
    let choice = c.first_edge-arc.ensures in
    let weighs = choice.tight.weighs in
    let on = walked-on q full.0 full.1 full.2 _ c.requires.table len c.loop-weight.steps.items place c.loop-weight.index c.loop-weight.left c.loop-weight.weight c.as_slice.result.now c.first_edge-arc.result all c.loop-weight.invariant c.loop-weight-test.true choice in
    walked-as q _ _ _ _ _ _ _ _ c.in_ok-push.ensures.items (leaves-once c.loop-weight.left c.first_edge-arc.result.step _ _ c.left_after-left.ensures choice.tight.leaves) (omega (arith, weighs)) on

pub returns : goal.returns
returns c =
    let q = c.args.problem.now in
    let h = c.loop-weight.invariant in
    let zero : c.loop-weight.weight ≡ 0 = omega (arith, c.loop-weight-test.false) in
    let first = h.onward [] (subst (λ n. IsFirst q c.loop-weight.left (node_at q c.loop-weight.place c.loop-weight.index) [] n) (sym zero)
    (first-end q c.loop-weight.left _ (subst (IsLeast q c.loop-weight.left (node_at q c.loop-weight.place c.loop-weight.index)) zero h.least))) in
    record {
      weight = h.start;
      least = h.start_least;
      first = subst (λ xs. IsFirst q 6 (entry_node q) xs h.start) (append-nil c.loop-weight.steps.items) first;
    }
