-- What is cited of these specifications, for one `use` line.
pub use Rattle.base_flow.specs.Branches.{bit_fails, bit_ops, branch_items, count_fails, count_ops, link_ops, otherwise, target_register, unless}
pub use Rattle.base_flow.specs.Traps.{trap_items, trap_tests, tw_ops, twi_ops, when_jump}
unfoldable pub use Rattle.base_flow.specs.SystemCall.{answer_items, done_items, error_items, failure_items, request_items, selection_items, success_items}
pub use Rattle.base_flow.specs.Tile.{HasTile, LeavesEbx, illegal_items, items_of, tile}
pub use Rattle.base_flow.specs.Laws.{BuiltHaveTiles, FlowTilesAreLaid, FlowTilesAreMarked, FlowTilesAreShort, FlowTilesDoRows, IllegalTileDoesWord}
