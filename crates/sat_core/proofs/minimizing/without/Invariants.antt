use Rattle.std.proofs.Common.{◌≡◌, take}
use Rattle.watched_literals.specs.Prelude.{without}
use Rattle.sat_core.proofs.minimizing.without.Given as goal

abbrev pub invariant-loop-other : goal.invariant-loop-other
invariant-loop-other l = l.rest.items ≡ without l.literal (take l.other-index l.clause)
