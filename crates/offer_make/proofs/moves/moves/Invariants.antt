use Rattle.std.proofs.Common.{◌≡◌, ◌+◌, map, slice_index}
use Rattle.std.specs.List.{flat_map, range_with_len}
use Rattle.offer_make.specs.Tables.{priced_at}
use Rattle.offer_make.proofs.moves.moves.Given as goal

abbrev pub invariant-loop-place : goal.invariant-loop-place
invariant-loop-place l = l.moves.items ≡ flat_map (λ place. map (priced_at (λ p. slice_index l.live.bits (l.first + p)) place) l.between) (range_with_len 0 l.place)
