use Rattle.std.proofs.Common.{◌≡◌, ℕ, ◌<◌, ◌≤◌, Bool, length}
use Rattle.word_kit.specs.Prelude.{bit_of}
use Rattle.circuit.specs.Prelude.{lit_truth, word_reach_below, AllAgree, free_value, IsApart, IsThere, node_made, at, MayUntie, Free}
use Rattle.circuit.specs.contracts.nodes.NodePartialEq.TheImpl.{ghosts}
use Rattle.circuit.proofs.Values.{WordStands}
use Rattle.circuit.proofs.gates.Gates.free_word.Given as goal

abbrev pub invariant-loop-i : goal.invariant-loop-i
invariant-loop-i l = record {
  made : WordStands (λ h k. node_made ghosts.eq h (Free l.word k)) l.i l.fn.self.nodes.keys l.out l.self.nodes.keys;
  wide : length l.out ≡ 32;
  later : MayUntie l.fn.self.nodes.keys l.self.nodes.keys;
  owned : word_reach_below l.i l.out ≤ length l.self.nodes.keys;
  apart : IsApart l.self.nodes.keys (Free l.word 0);
  begun : 0 < l.i → IsThere l.self.nodes.keys (Free l.word 0);
  means : (v : ℕ → Bool) → AllAgree l.self.nodes.keys v → (k : ℕ) → k < l.i → lit_truth (at l.out k) v ≡ bit_of (free_value l.word v) k;
}
