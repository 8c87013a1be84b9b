use Rattle.std.proofs.Common.{◌≤◌}
use Rattle.liveness.specs.Prelude.{IsUnder, work}
use Rattle.liveness.proofs.Spreading.{IsSpread}
use Rattle.liveness.proofs.growth.Growth.spread.Given as goal

abbrev pub invariant-loop-next : goal.invariant-loop-next
invariant-loop-next l = record {
  under : IsUnder l.flows l.self.sets.items l.self.waiting.items l.self.stack.items;
  spread : IsSpread l.flows l.self.sets.items l.self.waiting.items l.place l.next;
  work : work l.self.sets.items l.self.stack.items ≤ work l.fn.self.sets.items l.fn.self.stack.items;
}

abbrev pub decreases-loop-next : goal.decreases-loop-next
decreases-loop-next l = l.next
