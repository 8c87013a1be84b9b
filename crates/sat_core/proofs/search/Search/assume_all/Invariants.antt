use Rattle.std.proofs.Common.{take, None}
use Rattle.sat_core.specs.Prelude.{IsLiteralOf, Reaches}
use Rattle.sat_core.proofs.search.Search.assume_all.Given as goal

abbrev pub invariant-loop-literal : goal.invariant-loop-literal
invariant-loop-literal l = Reaches (IsLiteralOf l.fn.self.propagator.trail.room (take l.literal-index l.literals)) l.fn.self l.self None
