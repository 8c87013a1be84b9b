-- What is cited of these specifications, for one `use` line.
pub use Rattle.simulation.specs.Windows.{IsLinked, IsQuiet, behind_all, rows_of, then_row}
pub use Rattle.simulation.specs.Context.{Alike, AreAlike, ForksAt, HasTable, IsGuest, IsOffCode, IsWordAt, JumpsTo, KeepsUnwritten, LeadsToGuests, LiveIsEnough, MatchesState, SimulationContext, StepKeepsUnwritten}
pub use Rattle.simulation.specs.Plan.{AreWordsAt, Begins, BlockAt, BranchTile, DoorAt, EdgeAt, FlowAt, FlowTile, HasFewMoves, IsFlowTile, IsInside, IsMove, IsTile, IsUnneeded, LeadsTo, LeapAt, Move, PlanStep, SwitchAt, Tile, TileAt, room, word_count}
pub use Rattle.simulation.specs.Relation.{HoldHolds, IsTranslation, MovesKeep, Settled, Simulates, SimulationAdvances, SimulationIsBounded, SimulationSettles, Starts, at_block, holding, in_block, off_code, on_edge}
pub use Rattle.simulation.specs.Moves.{MoveCodesMove}
