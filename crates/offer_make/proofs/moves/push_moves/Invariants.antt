use Rattle.std.proofs.Common.{◌≡◌, ◌++◌, map, filter, take}
use Rattle.offer_make.specs.Tables.{may_move}
use Rattle.offer_make.proofs.Moving.{unpriced}
use Rattle.offer_make.proofs.moves.push_moves.Given as goal

abbrev pub invariant-loop-step : goal.invariant-loop-step
invariant-loop-step l = l.moves.items ≡ l.initial.moves.items ++ map (unpriced l.from) (filter (may_move l.from) (take l.step-index l.steps))
