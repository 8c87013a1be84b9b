-- That a program has one list of best plans. This project's own.
use Rattle.std.specs.Prelude.{◌≡◌, ℕ, List, length, Some, slice_get}
use Rattle.machines.specs.Prelude.{Program}
use Rattle.plan_form.specs.declared.problem.BlockPlan.{BlockPlan}
use Rattle.plan_form.specs.Prelude.{values_of}
use Rattle.best_plans.specs.Plans.{HasBestPlans}

-- the plans are the same, wherever their vectors lie
pub record IsSamePlan (a b : BlockPlan) : Type 0 where
  pub at : a.at ≡ b.at
  pub words : a.words ≡ b.words
  pub entry : a.entry ≡ b.entry
  pub exit : a.exit ≡ b.exit
  pub steps : a.plan.steps.items ≡ b.plan.steps.items
  pub labels : values_of a.labels ≡ values_of b.labels

pub record AreSamePlans (a b : List BlockPlan) : Type 0 where
  pub count : length a ≡ length b
  pub each : (k : ℕ) (x y : BlockPlan) → slice_get a k ≡ Some x → slice_get b k ≡ Some y → IsSamePlan x y

abbrev pub OneListOfBestPlans : Type 0
OneListOfBestPlans = (P : Program) (a b : List BlockPlan) → HasBestPlans P a → HasBestPlans P b → AreSamePlans a b
