use Rattle.std.proofs.Common.{◌≡◌, ◌<◌, ℕ, [], length, map, get_or}
use Rattle.tile_plan.proofs.arcs.no_arcs.Given as goal

abbrev pub invariant-loop : goal.invariant-loop
invariant-loop l = record {
  len : length l.arcs.items ≡ l.counter;
  none : (k : ℕ) → k < l.counter → get_or (map (λ a. a.items) l.arcs.items) k [] ≡ [];
}
