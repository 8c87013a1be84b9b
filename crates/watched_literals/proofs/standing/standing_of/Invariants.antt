use Rattle.std.proofs.Common.{take}
use Rattle.watched_literals.specs.Prelude.{Leaves}
use Rattle.watched_literals.proofs.standing.standing_of.Given as goal

abbrev pub invariant-loop-literal : goal.invariant-loop-literal
invariant-loop-literal l = Leaves l.trail.literals (take l.literal-index l.clause) l.left
