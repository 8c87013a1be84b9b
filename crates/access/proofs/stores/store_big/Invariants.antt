use Rattle.std.proofs.Common.{◌/◌, ◌^◌, ◌-◌, ℕ}
use Rattle.machines.specs.Prelude.{Program, store_big as big_stored}
use Rattle.access.specs.Kept.{Keeps}
use Rattle.access.proofs.stores.store_big.Given as goal

abbrev pub invariant-loop-k : goal.invariant-loop-k
invariant-loop-k l = (p : Program) (bytes : ℕ → ℕ) → Keeps p bytes l.fn.space
    → Keeps p (big_stored l.k l.at (l.value / 256 ^ (l.width - l.k)) bytes) l.space
