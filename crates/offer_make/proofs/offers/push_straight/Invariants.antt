use Rattle.std.proofs.Common.{◌≡◌, ◌++◌, filter, take}
use Rattle.std.specs.List.{flat_map}
use Rattle.offer_make.specs.Prices.{symbolic_price}
use Rattle.offer_make.specs.Tables.{may_lie, base_tile}
use Rattle.offer_make.proofs.offers.push_straight.Given as goal

abbrev pub invariant-loop-map : goal.invariant-loop-map
invariant-loop-map l = l.offers.items ≡ l.initial.offers.items ++ flat_map (λ m. filter (may_lie l.last l.exit) (base_tile l.place (symbolic_price l.ops) m)) (take l.map-index l.maps)
