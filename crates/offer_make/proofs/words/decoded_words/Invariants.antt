use Rattle.std.proofs.Common.{◌≡◌, ◌<◌, ℕ, slice_index, get_or, vec_len, None}
use Rattle.offer_make.specs.Problem.{IsReadAs}
use Rattle.offer_make.proofs.words.decoded_words.Given as goal

abbrev pub invariant-loop-word : goal.invariant-loop-word
invariant-loop-word l = record {
  count : vec_len l.decoded ≡ l.word-index;
  each : (k : ℕ) → k < l.word-index → IsReadAs (slice_index l.words k) (get_or l.decoded.items k None);
}
