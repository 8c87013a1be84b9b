use Rattle.std.proofs.Common.{◌≡◌, ℕ, ◌<◌, Bool, length, get_or}
use Rattle.circuit.specs.Prelude.{AllAgree, IsLater, AreOwned}
use Rattle.chosen_inputs.specs.Pairs.{AreAlike}
use Rattle.place_circuits.specs.Places.{HoldsPlaces, PlacesOwned}
use Rattle.place_circuits.specs.Fields.{field_value}
use Rattle.window_circuits.specs.Rules.{no_end}
use Rattle.circuit.specs.contracts.algebra.GatesAlg.TheImpl.{ghosts}
use Rattle.window_circuits.specs.Terms.{ends_term}
use Rattle.window_circuits.proofs.pairs.push_ends.Given as goal

abbrev pub invariant-loop-i : goal.invariant-loop-i
invariant-loop-i l = record {
  made : record { pairs = l.pairs.items; held = l.gates.nodes.keys } ≡ ends_term ghosts.ops l.i l.ends l.window l.body (record { pairs = l.fn.pairs.items; held = l.fn.gates.nodes.keys });
  later : IsLater l.fn.gates.nodes.keys l.gates.nodes.keys;
  window_owned : PlacesOwned (length l.gates.nodes.keys) l.window;
  body_owned : PlacesOwned (length l.gates.nodes.keys) l.body;
  owned : AreOwned (length l.gates.nodes.keys) l.pairs.items;
  alike : (w : ℕ → Bool) (t u : ℕ → ℕ) → AllAgree l.gates.nodes.keys w → HoldsPlaces w l.window t → HoldsPlaces w l.body u → AreAlike w l.pairs.items → AreAlike w l.fn.pairs.items × ((k : ℕ) → k < l.i → field_value (get_or l.ends k no_end).from t ≡ u (get_or l.ends k no_end).to);
}
