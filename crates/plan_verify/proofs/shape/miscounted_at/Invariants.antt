use Rattle.std.proofs.Common.{ℕ, ◌<◌}
use Rattle.plan_form.specs.Prelude.{values_of}
use Rattle.plan_verify.specs.Failures.{IsCounted}
use Rattle.plan_verify.proofs.shape.miscounted_at.Given as goal

abbrev pub invariant-loop-place : goal.invariant-loop-place
invariant-loop-place l = (k : ℕ) → k < l.place → IsCounted l.problem (values_of l.labels) k
