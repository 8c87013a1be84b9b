use Rattle.std.proofs.Common.{◌≡◌, ◌++◌, ◌==◌, get_or, filter}
use Rattle.std.specs.List.{range_with_len}
use Rattle.offer_make.proofs.candidates.push_used.Given as goal

abbrev pub invariant-loop-gpr : goal.invariant-loop-gpr
invariant-loop-gpr l = l.used.items ≡ l.initial.used.items ++ filter (λ g. get_or l.counts g 0 == l.times) (range_with_len 0 l.gpr)
