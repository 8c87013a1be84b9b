use Rattle.std.proofs.Common.{◌≡◌, take, map, filter}
use Rattle.std.specs.List.{flat_map}
use Rattle.offer_make.specs.Tables.{may_move}
use Rattle.offer_make.proofs.Moving.{unpriced}
use Rattle.offer_make.proofs.moves.moves_between.Given as goal

abbrev pub invariant-loop-from : goal.invariant-loop-from
invariant-loop-from l = l.moves.items ≡ flat_map (λ m. map (unpriced m) (filter (may_move m) l.steps.items)) (take l.from-index l.maps)
