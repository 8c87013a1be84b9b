use Rattle.circuit.proofs.Marking.{MarksStand}
use Rattle.circuit.proofs.reached.reached.Given as goal

abbrev pub invariant-loop-k : goal.invariant-loop-k
invariant-loop-k l = MarksStand l.nodes l.clause l.k l.marks.items
