use Rattle.std.proofs.Common.{◌≡◌, ℕ, ◌+◌, ◌%◌, ◌^◌, ◌<◌, Some, slice_index}
use Rattle.space.specs.Memory.{byte_at}
use Rattle.space.proofs.memory.Space.copy.Given as goal

abbrev pub invariant-loop-byte : goal.invariant-loop-byte
invariant-loop-byte l = record {
  address : l.address ≡ (l.at + l.byte-index) % 2 ^ 32;
  filled : (k : ℕ) → k < l.byte-index → byte_at l.self ((l.at + k) % 2 ^ 32) ≡ Some (slice_index l.into k);
}
