use Rattle.std.proofs.Common.{ℕ, length}
use Rattle.liveness.specs.Flows.{Leads}
use Rattle.liveness.specs.Prelude.{AreNamers, IsUnder, IsSettled, work}
use Rattle.liveness.proofs.growth.live.Given as goal

abbrev pub invariant-loop-place : goal.invariant-loop-place
invariant-loop-place l = record {
  namers : AreNamers l.flows (length l.flows) l.namers.last.items l.namers.before.items;
  under : IsUnder l.flows l.growth.sets.items l.growth.waiting.items l.growth.stack.items;
  settled : (p s : ℕ) → Leads l.flows p s → IsSettled l.flows l.growth.sets.items l.growth.waiting.items p s;
}

abbrev pub decreases-loop-place : goal.decreases-loop-place
decreases-loop-place l = work l.growth.sets.items l.growth.stack.items
