use Rattle.std.proofs.Common.{◌≡◌, length, take}
use Rattle.circuit.specs.Prelude.{word_of, lit_bits}
use Rattle.circuit.proofs.wiring.literal_word.Given as goal

abbrev pub invariant-loop-i : goal.invariant-loop-i
invariant-loop-i l = record {
  wide : length l.out ≡ 32;
  made : take l.i l.out ≡ word_of (lit_bits l.value) l.i;
}
