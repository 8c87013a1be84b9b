use Rattle.std.proofs.Common.{◌+◌, List, sym, subst}
use Rattle.liveness.specs.Prelude.{AreFlowsTo, Flow}
use Rattle.liveness.proofs.WordFlows.{flows_more}
use Rattle.liveness.proofs.reading.flows.Goals as goal

pub loop-place-preserved : goal.loop-place-preserved
loop-place-preserved c =
    subst (λ (xs : List Flow). AreFlowsTo c.args.code.now.first c.args.code.now.words.now (c.loop-place.place + 1) xs) (sym c.in_ok-push.ensures.items)
    (flows_more c.args.code.now.first c.args.code.now.words.now c.loop-place.place c.loop-place.flows.items c.flow_of.result c.loop-place.invariant c.flow_of.ensures)
