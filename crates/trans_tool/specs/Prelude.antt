-- What is cited of these specifications, for one `use` line.
pub use Rattle.trans_tool.specs.declared.cause.Cause.{Cause}
pub use Rattle.trans_tool.specs.declared.cause.Cause.TheVariants.{BadElf, DivideFault, Done, ErrFault, FileRead, FileWrite, GuestExit, Illegal, Memory, OutFault, StepsSpent, TooLong, Trap, Usage}
pub use Rattle.trans_tool.specs.Words.{IsName, IsRunLine, IsUsage, Spelled, steps_option}
pub use Rattle.trans_tool.specs.Whole.{IsLonger}
pub use Rattle.trans_tool.specs.Lines.{IsTold}
pub use Rattle.trans_tool.specs.Seen.{InputStands, OthersStand, Outside, Stream, StreamStands, StreamsStand, output_in}
pub use Rattle.trans_tool.specs.Translate.{Ends, IsAnswer, IsInput, IsSource, IsTranslated}
pub use Rattle.trans_tool.specs.Listing.{EndsListing, EndsUnread, IsFile, kind_of}
pub use Rattle.trans_tool.specs.Running.{AttendedOn, EndsRun, HasRunPartly, HasRunTo, PartlyOn, RanTo, RunsWholeOn, cause_of}
pub use Rattle.trans_tool.specs.Due.{IsDue, IsDueEnd, IsDueListing, IsDueRun, IsUnhindered, IsUnhinderedListing, IsUnhinderedRun}
pub use Rattle.trans_tool.specs.Top.{Comes, Runs}
