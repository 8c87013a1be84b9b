use Rattle.std.proofs.Common.{◌≡◌, ◌<◌, ◌^◌, ℕ, true, false}
use Rattle.machines.specs.Prelude.{Program, each_byte, load_big as big_number}
use Rattle.access.specs.Kept.{Keeps, is_allowed}
use Rattle.access.proofs.loads.load_big.Given as goal

abbrev pub invariant-loop-k : goal.invariant-loop-k
invariant-loop-k l = record {
  small : l.value < 256 ^ l.k;
  read : (p : Program) (bytes : ℕ → ℕ) → Keeps p bytes l.space
      → (each_byte (is_allowed p false) l.k l.at ≡ true) × (l.value ≡ big_number l.k l.at bytes);
}
