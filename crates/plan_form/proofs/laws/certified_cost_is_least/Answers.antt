use Rattle.plan_form.proofs.Bounds.{certified-least}
use Rattle.plan_form.proofs.laws.certified_cost_is_least.Goals as goal

pub returns : goal.returns
returns c = λ q values cost full good. certified-least q full.0 full.1 full.2 values cost good
