use Rattle.liveness.proofs.Finding.{start_under, start_settled, live_is}
use Rattle.liveness.proofs.growth.live.Goals as goal

pub loop-place-init : goal.loop-place-init
loop-place-init c = record {
  namers = c.in_ok-namers.ensures;
  under = start_under c.args.flows.now c.in_ok-growth.growth.sets.items c.in_ok-growth.growth.waiting.items c.in_ok-growth.growth.stack.items c.in_ok-growth.ensures;
  settled = start_settled c.args.flows.now c.in_ok-growth.growth.sets.items c.in_ok-growth.growth.waiting.items c.in_ok-growth.growth.stack.items c.in_ok-growth.ensures;
}

pub returns-clause-each : goal.returns-clause-each
returns-clause-each c =
    let t = c.in_default.ensures.next in
    live_is c.args.flows.now c.next.new.self.sets.items c.next.new.self.waiting.items c.next.new.self.stack.items t.1 t.2
