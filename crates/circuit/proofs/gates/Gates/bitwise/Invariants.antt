use Rattle.std.proofs.Common.{◌≡◌, ℕ, ◌<◌, ◌≤◌, Bool, length}
use Rattle.circuit.specs.Prelude.{lit_truth, word_reach_below, AllAgree, gate_truth, at, gate_made, IsLater}
use Rattle.circuit.specs.contracts.nodes.NodePartialEq.TheImpl.{ghosts}
use Rattle.circuit.proofs.Values.{WordStands}
use Rattle.circuit.proofs.gates.Gates.bitwise.Given as goal

abbrev pub invariant-loop-i : goal.invariant-loop-i
invariant-loop-i l = record {
  made : WordStands (λ h k. gate_made ghosts.eq l.op h (at l.x k) (at l.y k)) l.i l.fn.self.nodes.keys l.out l.self.nodes.keys;
  wide : length l.out ≡ 32;
  later : IsLater l.fn.self.nodes.keys l.self.nodes.keys;
  owned : word_reach_below l.i l.out ≤ length l.self.nodes.keys;
  means : (v : ℕ → Bool) → AllAgree l.self.nodes.keys v → (k : ℕ) → k < l.i → lit_truth (at l.out k) v ≡ gate_truth l.op v (lit_truth (at l.x k) v) (lit_truth (at l.y k) v);
}
