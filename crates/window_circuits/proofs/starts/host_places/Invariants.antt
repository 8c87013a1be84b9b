use Rattle.std.proofs.Common.{◌≡◌, ℕ, Bool, length}
use Rattle.circuit.specs.Prelude.{AllAgree, IsLater}
use Rattle.place_circuits.specs.Places.{HoldsPlaces, PlacesOwned}
use Rattle.window_circuits.specs.Starts.{with_homes}
use Rattle.circuit.specs.contracts.algebra.GatesAlg.TheImpl.{ghosts}
use Rattle.window_circuits.specs.Terms.{homes_term}
use Rattle.window_circuits.proofs.starts.host_places.Given as goal

abbrev pub invariant-loop-i : goal.invariant-loop-i
invariant-loop-i l = record {
  made : record { places = l.places; held = l.gates.nodes.keys } ≡ homes_term ghosts.ops l.i l.homes l.inputs l.fn.gates.nodes.keys;
  later : IsLater l.fn.gates.nodes.keys l.gates.nodes.keys;
  owned : PlacesOwned (length l.gates.nodes.keys) l.places;
  inputs_owned : PlacesOwned (length l.gates.nodes.keys) l.inputs;
  means : (w : ℕ → Bool) (t : ℕ → ℕ) → AllAgree l.gates.nodes.keys w → HoldsPlaces w l.inputs t → HoldsPlaces w l.places (with_homes l.i l.homes t);
}
