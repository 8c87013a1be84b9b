-- What is cited of these specifications, for one `use` line.
pub use Rattle.tile_plan.specs.declared.arcs.Arc.{Arc}
pub use Rattle.tile_plan.specs.declared.table.TheConstants.{NEVER}
pub use Rattle.tile_plan.specs.Arcs.{AreAllArcs, AreArcs, AreFromPlace, AreSoFar, IsArc, IsCollected, IsMoveArc, IsOfferArc, IsPushed, node_at}
pub use Rattle.tile_plan.specs.Least.{HasWalk, IsBeyond, IsEndWeight, IsFilled, IsLeast, IsRow, IsTable, weight_limit}
pub use Rattle.tile_plan.specs.Choice.{IsChoice, IsFirst, IsFirstPlan, IsTight}
pub use Rattle.tile_plan.specs.Reach.{Reaches}
pub use Rattle.tile_plan.specs.Forward.{AreForward, AreForwardLabels, AreLower, AreObeyed, AreObeyedFrom, AreReached, AreStartCosts, IsForwardRow, IsRelaxed, IsStartCost, StartsFree}
pub use Rattle.tile_plan.specs.Solution.{IsLeastCost, IsNode}
