use Rattle.plan_verify.proofs.Never.{never}
use Rattle.plan_verify.proofs.laws.certified_plans_do_not_fail.Goals as goal

pub returns : goal.returns
returns c = never
