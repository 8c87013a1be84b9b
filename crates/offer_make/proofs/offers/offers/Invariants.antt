use Rattle.std.proofs.Common.{◌≡◌, filter, length}
use Rattle.std.specs.List.{flat_map, range_with_len}
use Rattle.offer_make.specs.Tables.{may_lie, base_tiles}
use Rattle.offer_make.proofs.offers.offers.Given as goal

abbrev pub invariant-loop-place : goal.invariant-loop-place
invariant-loop-place l = l.offers.items ≡ flat_map (λ place. flat_map (λ m. filter (may_lie (length l.words) l.exit) (base_tiles l.at l.words place m)) l.maps) (range_with_len 0 l.place)
