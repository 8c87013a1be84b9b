use Rattle.std.proofs.Common.{refl, length, ap}
use Rattle.best_plans.proofs.plans.best_plan.Goals as goal

pub returns : goal.returns
returns c = record {
  at = refl;
  words = ap length c.as_slice.ensures;
  entry = refl;
  exit = refl;
  problem = c.in_ok-problem.problem;
  is_problem = c.in_ok-problem.ensures.problem;
  is_full = c.in_ok-problem.ensures.full;
  solved = c.in_ok-plan.ensures;
}
