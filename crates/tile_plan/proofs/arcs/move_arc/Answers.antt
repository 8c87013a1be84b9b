use Rattle.std.proofs.Common.{sym, subst, Contains}
use Rattle.tile_plan.proofs.arcs.move_arc.Goals as goal

pub index_in-requires-clause-map : goal.index_in-requires-clause-map
index_in-requires-clause-map c =
    let full = c.requires.full.2 in
    (full.maps c.args.item.now.map).1 ((full.moves c.args.item.now).0 c.requires.item).from

pub index_in-requires-2-clause-map : goal.index_in-requires-2-clause-map
index_in-requires-2-clause-map c =
    let full = c.requires.full.2 in
    subst (Contains c.args.problem.now.maps.items) (sym c.map_behind.ensures) ((full.maps _).1 ((full.moves c.args.item.now).0 c.requires.item).to)
