use Rattle.std.proofs.Common.{arith}
use Rattle.liveness.proofs.Taking.{nothing_waits, taken}
use Rattle.liveness.proofs.growth.Growth.next.Goals as goal

pub returns-in_default : goal.returns-in_default
returns-in_default c = record {
  next = nothing_waits c.args.flows.now c.args.self.now.sets.items c.args.self.now.waiting.items c.args.self.now.stack.items c.pop.new.self.items c.in_default.ensures.items (λ some. c.in_default.ensures.variant.1 (omega arith)) c.requires.under c.requires.settled;
}

pub returns : goal.returns
returns c = record {
  next = taken c.args.flows.now c.args.self.now.sets.items c.args.self.now.waiting.items c.args.self.now.stack.items c.pop.new.self.items c.in-Some.last c.in-Some.ensures.items c.requires.under c.requires.settled;
}
