use Rattle.std.proofs.Common.{◌≡◌, List, ℤ, take}
use Rattle.std.specs.List.{All}
use Rattle.watched_literals.specs.Prelude.{IsWithin, IsReady}
use Rattle.sat_core.specs.Prelude.{IsGained}
use Rattle.sat_core.proofs.Tight.{IsTightened}
use Rattle.sat_core.proofs.minimizing.minimize.Given as goal

abbrev pub invariant-loop-literal : goal.invariant-loop-literal
invariant-loop-literal l = record {
  room : l.propagator.trail.room ≡ l.fn.propagator.trail.room;
  within : All (IsWithin l.fn.propagator.trail.room) l.kept.items;
  ready : (known : List (List ℤ)) → IsReady known l.fn.propagator → IsReady known l.propagator;
  tightened : (known : List (List ℤ)) → IsReady known l.fn.propagator → IsGained known l.clause l.last
      → IsTightened known l.literal-items l.last (take l.literal-index l.literal-items) l.kept.items;
}
