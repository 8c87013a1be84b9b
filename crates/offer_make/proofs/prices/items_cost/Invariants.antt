use Rattle.std.proofs.Common.{◌≡◌, ◌≤◌, ◌*◌, take}
use Rattle.std.specs.List.{sum_by}
use Rattle.offer_make.specs.Prices.{item_cost}
use Rattle.offer_make.proofs.prices.items_cost.Given as goal

abbrev pub invariant-loop-item : goal.invariant-loop-item
invariant-loop-item l = (l.sum ≡ sum_by item_cost (take l.item-index l.items)) × (l.sum ≤ 22 * l.item-index)
