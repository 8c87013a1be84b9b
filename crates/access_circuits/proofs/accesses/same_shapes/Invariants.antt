use Rattle.std.proofs.Common.{◌≡◌, length}
use Rattle.access_circuits.specs.Terms.{are_shaped_alike}
use Rattle.access_circuits.proofs.accesses.same_shapes.Given as goal

abbrev pub invariant-loop-i : goal.invariant-loop-i
invariant-loop-i l = record {
  count : length l.xs ≡ length l.ys;
  same : l.same ≡ are_shaped_alike l.i l.xs l.ys;
}
