use Rattle.std.proofs.Common.{None}
use Rattle.sat_core.specs.Prelude.{IsVariable, Reaches}
use Rattle.sat_core.proofs.search.Search.assume_variables.Given as goal

abbrev pub invariant-loop-index : goal.invariant-loop-index
invariant-loop-index l = Reaches (IsVariable l.index) l.fn.self l.self None
