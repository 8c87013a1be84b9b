use Rattle.sat_core.specs.Prelude.{AreRead}
use Rattle.sat_core.proofs.values.values.Given as goal

abbrev pub invariant-loop-index : goal.invariant-loop-index
invariant-loop-index l = AreRead l.propagator.trail.literals l.index l.items.items
