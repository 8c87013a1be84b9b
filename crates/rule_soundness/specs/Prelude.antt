-- What is cited of these specifications, for one `use` line.
pub use Rattle.rule_body.specs.Prelude.{hole_value}
pub use Rattle.rule_soundness.specs.Matches.{IsMatch, Match, base_field, body_slot, slot_register}
pub use Rattle.rule_soundness.specs.LaidWords.{bound, count_field, filled, register_field}
unfoldable pub use Rattle.rule_soundness.specs.LaidWords.{laid_words}
pub use Rattle.rule_soundness.specs.LaidOps.{displaced, filled_hole, filled_op, laid_line, laid_ops, offset_of, placed, placed_operand, register_of}
pub use Rattle.rule_soundness.specs.Windows.{behind_row, everywhere, window}
unfoldable pub use Rattle.rule_soundness.specs.Windows.{loads_of, stores_of, taken_of}
pub use Rattle.rule_soundness.specs.Accesses.{AccessWindow, HaveAccess, accessed_behind, op_loads, op_stores, summed}
unfoldable pub use Rattle.rule_soundness.specs.Accesses.{accessed}
pub use Rattle.rule_soundness.specs.Sound.{IsConditionOf, IsSound, IsSoundAt, is_dead_name, location_named, ops_of_rule}
unfoldable pub use Rattle.rule_soundness.specs.Sound.{dead_of}
pub use Rattle.rule_soundness.specs.Laid.{AreWordsOf, IsMatchAt, target_at}
unfoldable pub use Rattle.rule_soundness.specs.Laid.{target_of}
pub use Rattle.rule_soundness.specs.Fields.{AccessesPutFields, BranchesPutFields, LoadsHaveWidths, RowsPutFields, RowsReadFields}
pub use Rattle.rule_soundness.specs.Shapes.{OpsHaveShapes, OpsLeaveAtMost}
