-- What is cited of these specifications, for one `use` line.
pub use Rattle.sat_core.specs.declared.search.Search.{Search}
pub use Rattle.sat_core.specs.Lessons.{AreDifferent, AreLessons, AreSame, IsLesson}
pub use Rattle.sat_core.specs.Verdicts.{AreLearned, IsModel, IsRefuted, value_of}
pub use Rattle.sat_core.specs.Decisions.{AreRead, IsAssigned, IsClosedUnder, IsGained, IsLiteralOf, IsVariable, Leads}
pub use Rattle.sat_core.specs.Searching.{Finds, IsConflict, IsGuided, IsRooted, IsSearching, IsTaught, Keeps, Reaches, Restarts, known, room_for}
