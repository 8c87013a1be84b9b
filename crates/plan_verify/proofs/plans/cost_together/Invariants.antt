use Rattle.std.proofs.Common.{◌≡◌, ◌*◌, ◌^◌, ◌≤◌, take}
use Rattle.std.specs.List.{sum_by}
use Rattle.plan_verify.specs.Failures.{end_label}
use Rattle.plan_verify.proofs.plans.cost_together.Given as goal

abbrev pub invariant-loop-plan : goal.invariant-loop-plan
invariant-loop-plan l = record {
  sum : l.total ≡ sum_by end_label (take l.plan-index l.plans);
  few : l.total ≤ l.plan-index * 2 ^ 32;
}
