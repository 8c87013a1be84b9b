use Rattle.plan_lays.proofs.Lays.{valid_plans_lay}
use Rattle.plan_lays.proofs.laws.valid_plans_lay.Goals as goal

pub returns : goal.returns
returns c = valid_plans_lay
