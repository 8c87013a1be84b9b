use Rattle.std.proofs.Common.{◌≡◌, ℕ, List, length, nat_lt, slice_get, Some, sym, subst, rules}
use Rattle.block_find.specs.declared.block.Block.{Block}
use Rattle.block_find.specs.Prelude.{all_blocks, block_at}
use Rattle.plan_form.specs.declared.problem.BlockPlan.{BlockPlan}
use Rattle.best_plans.specs.Plans.{IsBestPlan}
use Rattle.best_plans.proofs.Growing.{each_pushed}
use Rattle.best_plans.proofs.plans.best_plans.Goals as goal

pub loop-place-preserved : goal.loop-place-preserved
loop-place-preserved c =
    let all : List Block = all_blocks c.args.blocks.now in
    let plans : List BlockPlan = c.loop-place.plans.items in
    let here : length plans ≡ c.loop-place.place = c.loop-place.invariant.count in
    let Is : ℕ → BlockPlan → Type 0 = λ k plan. IsBestPlan c.args.live.now (block_at all k) (nat_lt k (length c.args.blocks.now.leaders)) plan in
    let is : Is c.loop-place.place c.in_ok-plan.plan =
    subst (λ (b : Block). IsBestPlan c.args.live.now b (nat_lt c.loop-place.place (length c.args.blocks.now.leaders)) c.in_ok-plan.plan) c.at.ensures
    (subst (λ (blocks : List Block). IsBestPlan c.args.live.now c.at.result.now (nat_lt c.loop-place.place (length blocks)) c.in_ok-plan.plan) c.as_slice-leaders.ensures c.in_ok-plan.ensures) in
    record {
      count = search rules;
      each = subst (λ (grown : List BlockPlan). (k : ℕ) (plan : BlockPlan) → slice_get grown k ≡ Some plan → Is k plan) (sym c.in_ok-push.ensures.items)
          (each_pushed Is plans c.in_ok-plan.plan c.loop-place.invariant.each (subst (λ (k : ℕ). Is k c.in_ok-plan.plan) (sym here) is));
    }
