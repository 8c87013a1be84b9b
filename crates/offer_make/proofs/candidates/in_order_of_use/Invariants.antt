use Rattle.std.proofs.Common.{◌≡◌}
use Rattle.offer_make.proofs.Counting.{ordered_to}
use Rattle.offer_make.proofs.candidates.in_order_of_use.Given as goal

abbrev pub invariant-loop-fewer : goal.invariant-loop-fewer
invariant-loop-fewer l = l.used.items ≡ ordered_to l.counts l.fewer
