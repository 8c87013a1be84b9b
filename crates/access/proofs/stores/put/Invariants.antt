use Rattle.std.proofs.Common.{◌≡◌, ◌+◌, ◌%◌, ◌^◌, ℕ, take}
use Rattle.machines.specs.Prelude.{Program, put_block}
use Rattle.access.specs.Kept.{Keeps}
use Rattle.access.proofs.stores.put.Given as goal

abbrev pub invariant-loop-byte : goal.invariant-loop-byte
invariant-loop-byte l = record {
  address : l.address ≡ (l.at + l.byte-index) % 2 ^ 32;
  put : (p : Program) (kept : ℕ → ℕ) → Keeps p kept l.fn.space
      → Keeps p (put_block l.at (take l.byte-index l.bytes) kept) l.space;
}
