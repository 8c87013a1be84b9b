use Rattle.std.proofs.Common.{arith}
use Rattle.liveness.proofs.Spreading.{spread_first, spread_next}
use Rattle.liveness.proofs.growth.Growth.spread.Goals as goal

pub loop-next-init : goal.loop-next-init
loop-next-init c = record {
  under = c.in_ok-pass_up.ensures.under;
  spread = spread_first c.args.flows.now c.args.namers.now.last.items c.args.namers.now.before.items c.args.place c.requires.namers c.requires.within
      c.pass_up.new.self.sets.items c.pass_up.new.self.waiting.items c.index-next.result.now c.index-next.ensures
      (λ p s leads ne. c.in_ok-pass_up.ensures.keeps p s (c.requires.settled p s leads ne)) c.in_ok-pass_up.ensures.settles;
  work = c.in_ok-pass_up.ensures.work;
}

pub loop-next-preserved : goal.loop-next-preserved
loop-next-preserved c = record {
  under = c.in_ok-pass.ensures.under;
  spread = spread_next c.args.flows.now c.args.namers.now.last.items c.args.namers.now.before.items c.args.place c.requires.namers c.requires.within
      c.loop-next.self.sets.items c.pass.new.self.sets.items c.loop-next.self.waiting.items c.pass.new.self.waiting.items c.loop-next.next c.index-next-in-loop-next.result.now
      c.loop-next.invariant.spread c.loop-next-test.true c.in_ok-pass.ensures.keeps c.in_ok-pass.ensures.settles c.index-next-in-loop-next.ensures;
  work = (let a = c.in_ok-pass.ensures.work in let b = c.loop-next.invariant.work in omega arith);
}
