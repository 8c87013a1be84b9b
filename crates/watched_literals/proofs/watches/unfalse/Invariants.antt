use Rattle.std.proofs.Common.{◌≢◌, ℤ, neg_ℤ, take}
use Rattle.std.specs.List.{Contains}
use Rattle.watched_literals.proofs.watches.unfalse.Given as goal

abbrev pub invariant-loop-literal : goal.invariant-loop-literal
invariant-loop-literal l = (literal : ℤ) → Contains (take l.literal-index l.clause) literal → literal ≢ l.but → Contains l.trail.literals (neg_ℤ literal)
