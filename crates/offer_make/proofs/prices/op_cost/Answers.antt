use Rattle.std.proofs.Common.{arith}
use Rattle.offer_make.proofs.Bounds.{cost_small}
use Rattle.offer_make.proofs.prices.op_cost.Goals as goal

pub returns-clause-small : goal.returns-clause-small
returns-clause-small c = let low = cost_small c.args.op.now in omega (arith, low, c.cost.ensures)
