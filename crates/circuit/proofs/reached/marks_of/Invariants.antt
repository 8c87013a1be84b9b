use Rattle.std.proofs.Common.{◌≡◌, false, take, replicate}
use Rattle.circuit.specs.Prelude.{marked}
use Rattle.circuit.proofs.reached.marks_of.Given as goal

abbrev pub invariant-loop-literal : goal.invariant-loop-literal
invariant-loop-literal l = l.marks.items ≡ marked (take l.literal-index l.clause) (replicate l.count false)
