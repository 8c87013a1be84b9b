use Rattle.std.proofs.Common.{◌≡◌, take}
use Rattle.watched_literals.proofs.clauses.literals_of_all.Given as goal

abbrev pub invariant-loop-clause : goal.invariant-loop-clause
invariant-loop-clause l = l.items.items ≡ take l.clause-index l.clauses
