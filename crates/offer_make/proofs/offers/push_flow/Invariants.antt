use Rattle.std.proofs.Common.{◌≡◌, ◌++◌, filter, take, length}
use Rattle.std.specs.List.{flat_map}
use Rattle.offer_make.specs.Tables.{may_lie, base_tiles}
use Rattle.offer_make.proofs.offers.push_flow.Given as goal

abbrev pub invariant-loop-map : goal.invariant-loop-map
invariant-loop-map l = l.offers.items ≡ l.initial.offers.items ++ flat_map (λ m. filter (may_lie (length l.words) l.exit) (base_tiles l.at l.words l.place m)) (take l.map-index l.maps)
