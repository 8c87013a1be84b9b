use Rattle.one_plan.proofs.Lists.{one_list}
use Rattle.one_plan.proofs.laws.one_list_of_best_plans.Goals as goal

pub returns : goal.returns
returns c = one_list c.one_instruction.ensures
