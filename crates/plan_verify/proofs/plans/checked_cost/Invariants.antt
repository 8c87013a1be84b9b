use Rattle.plan_verify.specs.Failures.{AreGoodBelow}
use Rattle.plan_verify.proofs.plans.checked_cost.Given as goal

abbrev pub invariant-loop-number : goal.invariant-loop-number
invariant-loop-number l = AreGoodBelow l.live l.blocks l.plans l.number
