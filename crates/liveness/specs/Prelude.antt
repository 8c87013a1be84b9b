-- What is cited of these specifications, for one `use` line.
pub use Rattle.liveness.specs.declared.flow.Flow.{Flow}
pub use Rattle.liveness.specs.Live.{AreLive, CountsAsRead, IsLocation, IsRead, IsWritten, Sets, anywhere, behind_call, falls_through, is_call, leads_anywhere, live_at, named}
pub use Rattle.liveness.specs.Flows.{AreFlowsOf, AreFlowsTo, Has, IsFlowOf, flow_at, nothing}
pub use Rattle.liveness.specs.Namers.{AreNamers, IsLast}
pub use Rattle.liveness.specs.Growth.{IsClosed, IsSettled, IsStart, IsUnder, Takes, Unwritten, Waits, room, work}
pub use Rattle.liveness.specs.Laws.{IsLiveHere}
