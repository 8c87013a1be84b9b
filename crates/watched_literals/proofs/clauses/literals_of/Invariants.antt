use Rattle.std.proofs.Common.{◌≡◌, take}
use Rattle.watched_literals.proofs.clauses.literals_of.Given as goal

abbrev pub invariant-loop-number : goal.invariant-loop-number
invariant-loop-number l = l.literals.items ≡ take l.number-index l.clause
