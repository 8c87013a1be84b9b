use Rattle.std.proofs.Common.{◌-◌, ◌≤◌}
use Rattle.space.specs.Memory.{ArePermitted}
use Rattle.space.proofs.memory.Space.holds.Given as goal

abbrev pub invariant-loop-done : goal.invariant-loop-done
invariant-loop-done l = record {
  within : l.done ≤ l.count;
  given : ArePermitted l.self l.writable l.at l.done;
}

abbrev pub decreases-loop-done : goal.decreases-loop-done
decreases-loop-done l = l.count - l.done
