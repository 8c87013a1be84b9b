use Rattle.std.proofs.Common.{◌≡◌, ◌++◌, false, get_or}
use Rattle.circuit.specs.Prelude.{chosen_clauses}
use Rattle.circuit.proofs.Appended.{clauses_left}
use Rattle.circuit.proofs.clauses.chosen_clauses.Given as goal

abbrev pub invariant-loop-k : goal.invariant-loop-k
invariant-loop-k l = l.out.items ++ clauses_left (λ k. get_or l.chosen k false) l.nodes l.k ≡ chosen_clauses (λ k. get_or l.chosen k false) 1 l.nodes
