use Rattle.std.proofs.Common.{◌≡◌, ◌≤◌, ◌*◌, take}
use Rattle.offer_make.specs.Prices.{symbolic_price}
use Rattle.offer_make.proofs.prices.ops_cost.Given as goal

abbrev pub invariant-loop-op : goal.invariant-loop-op
invariant-loop-op l = (l.sum ≡ symbolic_price (take l.op-index l.ops) l.map) × (l.sum ≤ 22 * l.op-index)
