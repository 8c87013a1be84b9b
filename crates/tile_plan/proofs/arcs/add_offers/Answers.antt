use Rattle.plan_form.specs.declared.problem.Offer.{Offer}
use Rattle.plan_form.specs.declared.problem.Tile.TheVariants.{Base}
use Rattle.std.proofs.Common.{◌≡◌, None, refl, length, arith}
use Rattle.std.proofs.lemmas.List.{length-map}
use Rattle.tile_plan.proofs.Edges.{offer-more, contains-at}
use Rattle.tile_plan.proofs.arcs.add_offers.Goals as goal

pub push_arc-requires : goal.push_arc-requires
push_arc-requires c =
    let q = c.args.problem.now in
    let full = c.requires.full.2 in
    let none : Offer = record { from = 0; to = 0; map = record { ebx = None; esi = None; edi = None }; tile = Base; price = 0 } in
    let offer = full.offers _ (contains-at c.as_slice-item-items.result.now q.offers.items c.loop-item.item-index none c.as_slice-item-items.ensures.value c.loop-item-test.true) in
    let len : length c.loop-item.arcs.items ≡ q.places = rw length-map at c.loop-item.invariant.len in
    omega (arith, offer.onward, offer.within, len, full.low)

pub loop-item-preserved : goal.loop-item-preserved
loop-item-preserved c =
    let q = c.args.problem.now in
    offer-more q _ _ _ c.offer_arc.result c.in_ok-push_arc.ensures c.as_slice-item-items.result.now (length q.moves.items) c.loop-item.item-index _
    c.as_slice-item-items.ensures.value c.loop-item-test.true refl c.offer_arc.ensures c.loop-item.invariant
