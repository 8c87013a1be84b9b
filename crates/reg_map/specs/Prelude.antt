-- What is cited of these specifications, for one `use` line.
pub use Rattle.reg_map.specs.declared.moves.Move.TheVariants.{Drop, Take}
pub use Rattle.reg_map.specs.Home.{HomesAreApart, gpr_home, home, home_size, location_count, location_range}
pub use Rattle.reg_map.specs.Place.{holds, place, place_in, slot_of}
pub use Rattle.reg_map.specs.Spelled.{alu_from, mov_from}
pub use Rattle.reg_map.specs.Relocated.{IsPlaceable, op_at, operand_at}
pub use Rattle.reg_map.specs.Moves.{IsPossible, MovesOne, PossibleMovesMoveOne, content, held_in, is_live, move_code, move_op, moved, moved_gpr, slot_register, with_content}
pub use Rattle.reg_map.specs.Representation.{AreInRange, HasSegments, IsHomePage, Represents, in_slot, location_place}
pub use Rattle.ppc_isa.specs.Map.{IsMap}
