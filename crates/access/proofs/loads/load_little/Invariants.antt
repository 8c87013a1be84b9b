use Rattle.std.proofs.Common.{◌≡◌, ◌<◌, ◌≤◌, ◌^◌, ◌-◌, ◌+◌, ℕ, true, false}
use Rattle.machines.specs.Prelude.{Program, each_byte, load as little_number}
use Rattle.access.specs.Kept.{Keeps, is_allowed}
use Rattle.access.proofs.loads.load_little.Given as goal

abbrev pub invariant-loop-k : goal.invariant-loop-k
invariant-loop-k l = record {
  within : l.k ≤ l.width;
  small : l.value < 256 ^ (l.width - l.k);
  read : (p : Program) (bytes : ℕ → ℕ) → Keeps p bytes l.space
      → (each_byte (is_allowed p false) (l.width - l.k) (l.at + l.k) ≡ true) × (l.value ≡ little_number (l.width - l.k) (l.at + l.k) bytes);
}
