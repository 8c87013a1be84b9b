use Rattle.std.proofs.Common.{◌≡◌, ℕ, ◌≤◌, ◌-◌, List, length, take}
use Rattle.std.specs.Io.KnownBytes.{Appends}
use Rattle.runner.specs.Prelude.{StandAt}
use Rattle.runner.proofs.transfers.put_from.Given as goal

abbrev pub invariant-loop-done : goal.invariant-loop-done
invariant-loop-done g l = record {
  some : l.done ≤ l.count;
  later : g.S.Sink.faults l.initial.sink ≤ g.S.Sink.faults l.sink;
  put : (bytes : List ℕ) → length bytes ≡ l.count → StandAt l.space l.at bytes → Appends (g.S.Sink.shown l.initial.sink) (g.S.Sink.shown l.sink) (take l.done bytes);
}

abbrev pub decreases-loop-done : goal.decreases-loop-done
decreases-loop-done g l = l.count - l.done
