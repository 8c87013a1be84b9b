use Rattle.std.proofs.Common.{◌≡◌, false, length, take}
use Rattle.circuit.specs.Prelude.{at, word_of, moved_by, Const}
use Rattle.circuit.proofs.wiring.moved_word.Given as goal

abbrev pub invariant-loop-i : goal.invariant-loop-i
invariant-loop-i l = record {
  wide : length l.out ≡ 32;
  made : take l.i l.out ≡ word_of (λ j. moved_by (Const false) l.turn l.n (at l.x) j) l.i;
}
