use Rattle.std.proofs.Common.{◌≡◌, ℕ, ◌<◌, ◌≤◌, ◌++◌, Bool}
use Rattle.circuit.specs.Prelude.{AreOwned, at, lit_truth, word_reach_below}
use Rattle.chosen_inputs.specs.Pairs.{AreAlike}
use Rattle.access_circuits.specs.Terms.{byte_pairs, stored_place}
use Rattle.access_circuits.proofs.accesses.push_bytes.Given as goal

abbrev pub invariant-loop-i : goal.invariant-loop-i
invariant-loop-i l = record {
  pushed : l.pairs.items ≡ l.fn.pairs.items ++ byte_pairs l.i l.x l.y;
  alike : (w : ℕ → Bool) → AreAlike w l.pairs.items → AreAlike w l.fn.pairs.items × ((k : ℕ) → k < l.i → lit_truth (at l.x (stored_place k)) w ≡ lit_truth (at l.y (stored_place k)) w);
  owned : (m : ℕ) → AreOwned m l.fn.pairs.items → word_reach_below 32 l.x ≤ m → word_reach_below 32 l.y ≤ m → AreOwned m l.pairs.items;
}
