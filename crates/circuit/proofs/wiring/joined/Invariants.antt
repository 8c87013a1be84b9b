use Rattle.std.proofs.Common.{◌≡◌, length, take}
use Rattle.circuit.specs.Prelude.{word_of, join_bits}
use Rattle.circuit.proofs.wiring.joined.Given as goal

abbrev pub invariant-loop-i : goal.invariant-loop-i
invariant-loop-i l = record {
  wide : length l.out ≡ 32;
  made : take l.i l.out ≡ word_of (join_bits l.b3 l.b2 l.b1 l.b0) l.i;
}
