use Rattle.std.proofs.Common.{refl}
use Rattle.tile_plan.proofs.Edges.{move-more}
use Rattle.tile_plan.proofs.arcs.add_moves.Goals as goal

pub loop-item-preserved : goal.loop-item-preserved
loop-item-preserved c =
    move-more c.args.problem.now _ _ _ c.move_arc.result c.in_ok-push_arc.ensures c.as_slice-item-items.result.now c.loop-item.item-index 0 _
    c.as_slice-item-items.ensures.value c.loop-item-test.true refl c.move_arc.ensures c.loop-item.invariant
