use Rattle.std.proofs.Common.{◌≡◌, ℕ, ◌<◌, ◌++◌, Bool, true, List, length, get_or}
use Rattle.circuit.specs.Prelude.{AreOwned}
use Rattle.chosen_inputs.specs.Pairs.{AreAlike}
use Rattle.row_runs.specs.Accesses.{Accessed}
use Rattle.access_circuits.specs.Lists.{no_access, AreAccesses, AccessesOwned, HaveSameShapes}
use Rattle.access_circuits.specs.Terms.{have_same_shapes, access_pairs}
use Rattle.access_circuits.proofs.accesses.pair_accesses.Given as goal

abbrev pub invariant-loop-i : goal.invariant-loop-i
invariant-loop-i l = record {
  count : length l.xs ≡ length l.ys;
  shapes : HaveSameShapes l.xs l.ys;
  same : have_same_shapes l.xs l.ys ≡ true;
  pushed : l.pairs.items ≡ l.fn.pairs.items ++ access_pairs l.i l.xs l.ys;
  alike : (w : ℕ → Bool) (ts us : List Accessed) → AreAlike w l.pairs.items → AreAccesses w l.xs ts → AreAccesses w l.ys us → AreAlike w l.fn.pairs.items × ((k : ℕ) → k < l.i → get_or ts k no_access ≡ get_or us k no_access);
  owned : (m : ℕ) → AreOwned m l.fn.pairs.items → AccessesOwned m l.xs → AccessesOwned m l.ys → AreOwned m l.pairs.items;
}
