-- What is cited of these specifications, for one `use` line.
pub use Rattle.runs.specs.declared.example.Op.{Op}
pub use Rattle.runs.specs.declared.example.Word.{Word}
pub use Rattle.runs.specs.Machine.{After, AgreesFrom, Along, Anywhere, Asks, Ends, Goes, Outcome, reported, run}
pub use Rattle.runs.specs.Laws.{AgreesInLarger, IsNarrower, KeepsCalls, SameRun, StaysIn, StaysOver}
pub use Rattle.runs.specs.Simulation.{Advance, Advances, Agreement, IsBounded, MeetAtZero, Walks, called, exits_at_once, goes_for_ever, lost, onward, over, stays, walks}
pub use Rattle.runs.specs.Example.{ExampleAgrees, Guest, Host, guarded_by, guarded_step, guest_step, host_by, host_start, host_step, returned}
