-- What is cited of these specifications, for one `use` line.
pub use Rattle.code_layout.specs.Built.{IsBuiltStraight}
pub use Rattle.code_layout.specs.Decoded.{AreDecodedAs, IsDecodedAs, IsLegalDecoded, decoded_at}
pub use Rattle.code_layout.specs.Places.{Moves, Places, entry_of, no_moves, no_registers, place_of, places_in}
pub use Rattle.code_layout.specs.PlacesOf.{places_of}
pub use Rattle.reg_map.specs.Relocated.{IsPlaceable, op_at, operand_at}
pub use Rattle.code_layout.specs.Leap.{leap_ops}
pub use Rattle.code_layout.specs.Code.{IsEnding, LaysWords, edge_bytes, item_bytes, item_length, jump, jump_on, leap_bytes, moves_ops, ops_at, ops_in, placed, plain, spelled, tile_items, word_ops}
unfoldable pub use Rattle.code_layout.specs.Code.{before_mark, block_items, items_bytes, items_length}
pub use Rattle.code_layout.specs.Layout.{ArePlansFor, BeginsAt, IsCodeFor, IsLaidFor, Laying, block_length, code_bytes, items_of, laying, stands_at, steps_in, steps_of, words_of}
unfoldable pub use Rattle.code_layout.specs.Layout.{blocks_bytes}
pub use Rattle.symbolic_tiles.specs.Marks.{IsLaid, is_mark}
