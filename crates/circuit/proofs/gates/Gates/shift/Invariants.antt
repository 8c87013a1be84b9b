use Rattle.std.proofs.Common.{◌≡◌, ℕ, ◌<◌, ◌≤◌, Bool, false, length}
use Rattle.word_kit.specs.Prelude.{of_bits}
use Rattle.circuit.specs.Prelude.{lit_truth, word_reach_below, AllAgree, at, moved_by, shift_made, IsLater}
use Rattle.circuit.specs.contracts.nodes.NodePartialEq.TheImpl.{ghosts}
use Rattle.circuit.proofs.gates.Gates.shift.Given as goal

abbrev pub invariant-loop-stage : goal.invariant-loop-stage
invariant-loop-stage l = record {
  word_is : l.out ≡ (shift_made ghosts.eq l.turn l.stage l.fn.self.nodes.keys l.fn.x l.by).word;
  held_is : l.self.nodes.keys ≡ (shift_made ghosts.eq l.turn l.stage l.fn.self.nodes.keys l.fn.x l.by).held;
  later : IsLater l.fn.self.nodes.keys l.self.nodes.keys;
  owned : word_reach_below 32 l.out ≤ length l.self.nodes.keys;
  means : (v : ℕ → Bool) → AllAgree l.self.nodes.keys v → (k : ℕ) → k < 32 → lit_truth (at l.out k) v ≡ moved_by false l.turn (of_bits (λ j. lit_truth (at l.by j) v) l.stage) (λ j. lit_truth (at l.fn.x j) v) k;
}
