use Rattle.std.proofs.Common.{◌≡◌, ◌++◌, map, take}
use Rattle.offer_make.specs.Tables.{priced_at}
use Rattle.offer_make.proofs.moves.push_priced.Given as goal

abbrev pub invariant-loop-item : goal.invariant-loop-item
invariant-loop-item l = l.moves.items ≡ l.initial.moves.items ++ map (priced_at (λ p. l.live.bits) l.place) (take l.item-index l.between)
