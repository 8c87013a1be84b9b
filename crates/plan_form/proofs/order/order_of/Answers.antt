use Rattle.std.proofs.Common.{arith}
use Rattle.plan_form.proofs.Counts.{few-maps}
use Rattle.plan_form.proofs.order.order_of.Goals as goal

pub overflow_add-result-in-Go-Take-2 : goal.overflow_add-result-in-Go-Take-2
overflow_add-result-in-Go-Take-2 c = omega (arith, c.rank.ensures.small, few-maps c.args.problem.now c.requires.0 c.requires.1 c.requires.2)

pub returns-in-Go-Take-clause-small : goal.returns-in-Go-Take-clause-small
returns-in-Go-Take-clause-small c = omega (arith, c.rank.ensures.small, few-maps c.args.problem.now c.requires.0 c.requires.1 c.requires.2)
