-- What is cited of these specifications, for one `use` line.
pub use Rattle.symbolic_tiles.specs.declared.flow_op.FlowOp.TheVariants.{Edge, Jump, Leap, Mark, Plain}
pub use Rattle.symbolic_tiles.specs.declared.symbolic_op.AccessSize.{AccessSize}
pub use Rattle.symbolic_tiles.specs.declared.symbolic_op.AccessSize.TheVariants.{Byte, Half, Word}
pub use Rattle.symbolic_tiles.specs.declared.symbolic_op.SymbolicOp.{SymbolicOp}
pub use Rattle.symbolic_tiles.specs.declared.symbolic_op.SymbolicOp.TheVariants.{Alu, AluImmediate, Divide, FetchByte, Invert, Load, Mov, MovImmediate, MoveIf, Multiply, MultiplyWide, Negate, Put, PutByte, PutImmediate, Scan, SetByte, ShiftBy, ShiftCl, Signs, Store, SwapBytes, Test, TestImmediate, Widen}
pub use Rattle.symbolic_tiles.specs.declared.symbolic_op.SymbolicOperand.{SymbolicOperand}
pub use Rattle.symbolic_tiles.specs.declared.symbolic_op.SymbolicOperand.TheVariants.{Location, Temporary}
pub use Rattle.symbolic_tiles.specs.declared.tile_item.TileItem.{TileItem}
pub use Rattle.symbolic_tiles.specs.declared.tile_item.TileItem.TheVariants.{BranchIndirect, BranchTo, Do, Interrupt, JumpIf, Label, LoadEbx, Trap, Undefined}
pub use Rattle.symbolic_tiles.specs.Perform.{core_behind, is_jump, op_outcome, perform, then_at}
pub use Rattle.symbolic_tiles.specs.Row.{Any, DoesRow, DoesRowAt, GoesThrough, Implements, IsCore, IsUnowned, TilePostcondition, TilePrecondition, Window, WritesHeld, loaded, span, stored, window_of}
pub use Rattle.symbolic_tiles.specs.Flow.{Calls, Exit, Falls, Fits, FitsGoing, FlowDoesWord, FlowDoesWordAt, IsBefore, IsBehind, Leaps, Leaves, Stops, behind_op, flow, is_taken, leap_target}
pub use Rattle.symbolic_tiles.specs.Straight.{AccessIsInside, AccessesAreInside, IsStraight, RowsAreStraight}
pub use Rattle.reg_map.specs.Relocated.{op_at, operand_at}
pub use Rattle.symbolic_tiles.specs.Standing.{AreWalked, EdgeCode, FlowIsWalked, FlowsAreWalked, ItemsAt, OpAt, OpsAreWalked, OpsAt, Reaches}
pub use Rattle.symbolic_tiles.specs.SymbolicOps.{AreWellFormed, Holds, IsByte, IsSymbolicOperand, IsTemporary, IsWellFormed, load_op, op_of, operand_of, ops_of, store_op, wide_op}
pub use Rattle.symbolic_tiles.specs.SymbolicState.{SymbolicState, at, can_load, can_store, execute_op, execute_ops, loaded_word, size_of, stored_number, symbolic_values, then_ops, with_both, with_effect, with_location, with_reg}
pub use Rattle.symbolic_tiles.specs.Tiles.{IsTileOf, most_bytes, room_of, spelled_bytes}
pub use Rattle.symbolic_tiles.specs.Recording.{field_ops, record_ops}
pub use Rattle.symbolic_tiles.specs.TileItems.{AreItems, IsFree, code_of, doing, flow_of, flows_of}
pub use Rattle.symbolic_tiles.specs.SymbolicExit.{Called, Indirect, Out, Stopped, SymbolicExit, Unknown, asks_for, calls, execute, goes_on, then_exit, with_given}
pub use Rattle.symbolic_tiles.specs.Marks.{AreLaid, AreMarked, IsJumpCode, flow_room, flows_room, has_mark}
pub use Rattle.symbolic_tiles.specs.Laws.{LoadsKeepMemory, OpsStandAnywhere, PlacesAreRead, PlacesAreWritten, ProgramsWriteHeld}
