use Rattle.std.proofs.Common.{ℕ}
use Rattle.machines.specs.Prelude.{Program, store as little_stored}
use Rattle.access.specs.Kept.{Keeps}
use Rattle.access.proofs.stores.store_little.Given as goal

abbrev pub invariant-loop-k : goal.invariant-loop-k
invariant-loop-k l = (p : Program) (bytes : ℕ → ℕ) → Keeps p bytes l.fn.space
    → Keeps p (little_stored l.k l.at l.value bytes) l.space
