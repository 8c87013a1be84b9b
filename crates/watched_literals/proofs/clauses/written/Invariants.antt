use Rattle.std.proofs.Common.{◌≡◌, take}
use Rattle.watched_literals.proofs.clauses.written.Given as goal

abbrev pub invariant-loop-literal : goal.invariant-loop-literal
invariant-loop-literal l = l.numbers.items ≡ take l.literal-index l.literals
