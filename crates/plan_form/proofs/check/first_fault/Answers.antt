use Rattle.plan_form.specs.Prelude.{values_of}
use Rattle.std.proofs.Common.{length}
use Rattle.plan_form.proofs.Faulty.{sound-on, moves-on, moves-kept, offers-on}
use Rattle.plan_form.proofs.check.first_fault.Goals as goal

pub loop-item-preserved : goal.loop-item-preserved
loop-item-preserved c =
    let q = c.args.problem.now in
    let values = values_of c.args.labels.now in
    let e = c.earlier-found.ensures in
    let h = c.loop-item.invariant in
    record {
      sound = sound-on q values _ _ _ e h.sound c.move_fault.ensures.sound;
      moves = moves-on q values _ _ _ e c.as_slice-item-items.result.now c.loop-item.item-index _ c.as_slice-item-items.ensures.value c.loop-item-test.true h.moves c.move_fault.ensures;
    }

pub loop-item-2-preserved : goal.loop-item-2-preserved
loop-item-2-preserved c =
    let q = c.args.problem.now in
    let values = values_of c.args.labels.now in
    let e = c.earlier-found-in-loop-item-2.ensures in
    let h = c.loop-item-2.invariant in
    record {
      sound = sound-on q values _ _ _ e h.sound c.offer_fault.ensures.sound;
      moves = moves-kept q values _ _ _ e (length q.moves.items) h.moves;
      offers = offers-on q values _ _ _ e c.as_slice-item-items-2.result.now c.loop-item-2.item-index _ c.as_slice-item-items-2.ensures.value c.loop-item-2-test.true h.offers c.offer_fault.ensures;
    }
