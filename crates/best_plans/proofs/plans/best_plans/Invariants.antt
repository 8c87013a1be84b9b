use Rattle.std.proofs.Common.{◌≡◌, ℕ, length, nat_lt, slice_get, Some}
use Rattle.block_find.specs.Prelude.{all_blocks, block_at}
use Rattle.plan_form.specs.declared.problem.BlockPlan.{BlockPlan}
use Rattle.best_plans.specs.Plans.{IsBestPlan}
use Rattle.best_plans.proofs.plans.best_plans.Given as goal

abbrev pub invariant-loop-place : goal.invariant-loop-place
invariant-loop-place l = record {
  count : length l.plans.items ≡ l.place;
  each : (k : ℕ) (plan : BlockPlan) → slice_get l.plans.items k ≡ Some plan → IsBestPlan l.live (block_at (all_blocks l.blocks) k) (nat_lt k (length l.blocks.leaders)) plan;
}
