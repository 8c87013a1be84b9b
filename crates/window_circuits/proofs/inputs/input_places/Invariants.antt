use Rattle.std.proofs.Common.{◌+◌, ◌≡◌, ℕ, ◌<◌, ◌≤◌, length, slice_index_or, []}
use Rattle.circuit.specs.Prelude.{word_value, word_reach_below, IsLater}
use Rattle.chosen_inputs.specs.Inputs.{with_inputs, word_of_inputs}
use Rattle.chosen_inputs.specs.Choices.{CanChoose}
use Rattle.window_circuits.specs.Starts.{AreWithin, bits_before}
use Rattle.window_circuits.proofs.inputs.input_places.Given as goal

abbrev pub invariant-loop-i : goal.invariant-loop-i
invariant-loop-i l = record {
  wide : length l.words ≡ 64;
  later : IsLater l.fn.gates.nodes.keys l.gates.nodes.keys;
  owned : (k : ℕ) → k < l.i → word_reach_below 32 (slice_index_or l.words k []) ≤ length l.gates.nodes.keys;
  made : (k : ℕ) → k < l.i → slice_index_or l.words k [] ≡ word_of_inputs (length l.fn.gates.nodes.keys + bits_before k l.widths) (slice_index_or l.widths k 0);
  held : l.gates.nodes.keys ≡ with_inputs (bits_before l.i l.widths) l.fn.gates.nodes.keys;
  chosen : (t : ℕ → ℕ) → AreWithin l.widths t → CanChoose l.fn.gates.nodes.keys l.gates.nodes.keys (λ w. (k : ℕ) → k < l.i → word_value 32 (slice_index_or l.words k []) w ≡ t k);
}
