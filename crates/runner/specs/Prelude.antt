-- What is cited of these specifications, for one `use` line.
pub use Rattle.runner.specs.declared.transfers.Taken.{Taken}
pub use Rattle.runner.specs.Answers.{Bytes, Errors, Extent, Faulted, Full, HasRun, HasWholeRun, Input, IsAnswered, IsAnsweredOn, IsTransferred, Output, Stream, Transfer, is_faulted, is_same, other_answer, stream_of}
unfoldable pub use Rattle.runner.specs.Answers.{AreAnswered, AreWhole, faults_on}
pub use Rattle.runner.specs.Stepping.{Describes, GoesOn, HasBuffer, IsHeld, Resumes, StandAt, Tells, is_asked}
pub use Rattle.runner.specs.Attending.{Attended, AttendedPartly, CallAnswered, HasCounted, HasTakeCause, HasTaken, IsMade, IsOver, ReadAnswered, RoseBy, StepInVain, StepMade, Steps, Streams, TakenInVain, Takes, TakesInVain, TakesPartly, Told, WriteAnswered, streams_by, with_errors, with_input, with_output}
pub use Rattle.runner.specs.Guests.{ShowsGuest}
pub use Rattle.runner.specs.Hosts.{ShowsHost}
