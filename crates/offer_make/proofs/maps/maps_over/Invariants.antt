use Rattle.offer_make.proofs.Numbers.{AreBelow}
use Rattle.offer_make.proofs.maps.maps_over.Given as goal

abbrev pub invariant-loop-number : goal.invariant-loop-number
invariant-loop-number l = AreBelow l.candidates l.number l.maps.items
