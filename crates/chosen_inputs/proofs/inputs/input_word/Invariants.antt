use Rattle.std.proofs.Common.{◌≡◌, ℕ, ◌+◌, ◌<◌, ◌≤◌, length}
use Rattle.circuit.specs.Prelude.{word_reach_below, IsInput, IsLater}
use Rattle.chosen_inputs.specs.Inputs.{with_inputs, word_of_inputs}
use Rattle.chosen_inputs.proofs.inputs.input_word.Given as goal

abbrev pub invariant-loop-i : goal.invariant-loop-i
invariant-loop-i l = record {
  later : IsLater l.fn.gates.nodes.keys l.gates.nodes.keys;
  count : length l.gates.nodes.keys ≡ length l.fn.gates.nodes.keys + l.i;
  owned : word_reach_below 32 l.out ≤ length l.gates.nodes.keys;
  made : l.out ≡ word_of_inputs (length l.fn.gates.nodes.keys) l.i;
  held : l.gates.nodes.keys ≡ with_inputs l.i l.fn.gates.nodes.keys;
  stand : (k : ℕ) → k < l.i → IsInput l.gates.nodes.keys (length l.fn.gates.nodes.keys + k);
}
