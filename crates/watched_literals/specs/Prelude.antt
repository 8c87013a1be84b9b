-- What is cited of these specifications, for one `use` line.
pub use Rattle.watched_literals.specs.declared.watches.Pair.{Pair}
pub use Rattle.watched_literals.specs.declared.propagator.Propagator.{Propagator}
pub use Rattle.watched_literals.specs.Propagation.{Follows, HasConflict, IsMadeTrue, IsNews, IsTautology, IsTight, without}
pub use Rattle.watched_literals.specs.Trails.{AllSettled, AreMadeTrue, Denies, Extends, Grows, IsConsistent, IsDenied, IsFalse, IsSettled, IsUnit, Leaves, unset}
pub use Rattle.watched_literals.specs.Literals.{AreReasoned, Assigned, IsTruth, IsWithin, code}
pub use Rattle.watched_literals.specs.Watches.{AllWatched, AreAmong, AreHandled, Fails, IsComplete, IsFree, IsPair, IsStore, IsStored, IsTrueIn, IsWatch, Keeps, Moves, Propagates, Rewatches, Rises, Visits, Watches, no_pair, StaysWatched}
pub use Rattle.watched_literals.specs.Propagators.{AreHeld, IsAbove, IsOpen, IsOpenAt, IsReady, IsReasoned, IsTried, Spreads, Implies}
pub use Rattle.watched_literals.specs.declared.levels.Levels.{Levels}
pub use Rattle.watched_literals.specs.Levels.{AreStacked, IsImplied, IsLeveled, IsWatchedAt}
pub use Rattle.watched_literals.specs.Numbers.{AreNames, Grown, IsNumbered, behind, name, total}
