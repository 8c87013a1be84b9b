use Rattle.std.proofs.Common.{◌≡◌, ◌++◌}
use Rattle.chosen_inputs.specs.Pairs.{bit_pairs}
use Rattle.chosen_inputs.proofs.pairs.push_word.Given as goal

abbrev pub invariant-loop-i : goal.invariant-loop-i
invariant-loop-i l = record {
  pushed : l.pairs.items ≡ l.fn.pairs.items ++ bit_pairs l.i l.x l.y;
}
