use Rattle.std.proofs.Common.{◌≡◌, ◌<◌, ℕ, slice_index, vec_len}
use Rattle.code_layout.specs.Prelude.{IsDecodedAs, decoded_at}
use Rattle.code_layout.proofs.decoded.decoded_words.Given as goal

abbrev pub invariant-loop-word : goal.invariant-loop-word
invariant-loop-word l = record {
  count : vec_len l.decoded ≡ l.word-index;
  each : (k : ℕ) → k < l.word-index → IsDecodedAs (slice_index l.words k) (decoded_at l.decoded.items k);
}
