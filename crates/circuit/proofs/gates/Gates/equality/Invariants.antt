use Rattle.std.proofs.Common.{◌≡◌, ℕ, ◌≤◌, Bool, length, eqb}
use Rattle.circuit.specs.Prelude.{lit_truth, lit_reach, word_value, AllAgree, IsLater}
use Rattle.circuit.specs.contracts.nodes.NodePartialEq.TheImpl.{ghosts}
use Rattle.circuit.proofs.Values.{EqualStands}
use Rattle.circuit.proofs.gates.Gates.equality.Given as goal

abbrev pub invariant-loop-i : goal.invariant-loop-i
invariant-loop-i l = record {
  made : EqualStands ghosts.eq l.i l.fn.self.nodes.keys l.x l.y l.alike l.self.nodes.keys;
  later : IsLater l.fn.self.nodes.keys l.self.nodes.keys;
  owned : lit_reach l.alike ≤ length l.self.nodes.keys;
  means : (v : ℕ → Bool) → AllAgree l.self.nodes.keys v → lit_truth l.alike v ≡ eqb (word_value l.i l.x v) (word_value l.i l.y v);
}
