use Rattle.std.proofs.Common.{◌≡◌, ◌≤◌, false}
use Rattle.machines.specs.Prelude.{Outcome, Goes}
use Rattle.runner.specs.Prelude.{Bytes, streams_by, Told, GoesOn}
use Rattle.runner.proofs.Runs.{Reached}
use Rattle.runner.proofs.running.run.Given as goal

abbrev pub invariant-loop : goal.invariant-loop
invariant-loop g l = record {
  later : g.E.Sink.faults l.initial.errors ≤ g.E.Sink.faults l.errors;
  free : g.M.Machine.waits l.machine ≡ false;
  stands : GoesOn (g.M.Machine.shows l.machine);
  reached : (step : g.M.Machine.State → Outcome g.M.Machine.State) (start : g.M.Machine.State) (before : Bytes)
      → g.M.Machine.shows l.initial.machine step (Goes start)
      → Told (streams_by g.I.Source.left g.I.Source.faults g.O.Sink.shown g.O.Sink.faults g.E.Sink.shown g.E.Sink.faults l.initial.input l.initial.output l.initial.errors) before
      → Reached (g.M.Machine.shows l.machine step) step start l.counter
      (streams_by g.I.Source.left g.I.Source.faults g.O.Sink.shown g.O.Sink.faults g.E.Sink.shown g.E.Sink.faults l.initial.input l.initial.output l.initial.errors)
      (streams_by g.I.Source.left g.I.Source.faults g.O.Sink.shown g.O.Sink.faults g.E.Sink.shown g.E.Sink.faults l.input l.output l.errors) before;
}
