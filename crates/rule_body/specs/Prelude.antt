-- What is cited of these specifications, for one `use` line.
pub use Rattle.rule_body.specs.declared.goal.Guest.{Guest}
pub use Rattle.rule_body.specs.declared.line.HostLine.{HostLine}
pub use Rattle.rule_body.specs.Rows.{has_access, is_ending, is_open, is_plain}
pub use Rattle.rule_body.specs.Numbers.{AreNumbered, highest, numbers, rotated}
pub use Rattle.rule_body.specs.Templates.{AreGuests, AreStraight, IsBranching, IsGuest, IsPlaced, IsTemplate, IsWindow, Template, named, slot_count}
pub use Rattle.rule_body.specs.Goals.{IsGoal, IsTidy, guests, guests_of, template_of}
pub use Rattle.rule_body.specs.Ops.{operand_registers, registers}
unfoldable pub use Rattle.rule_body.specs.Ops.{accesses, is_straight, parts}
pub use Rattle.rule_body.specs.Lines.{IsHoleFor, IsHome, IsHostLine, IsOperandFor, hole_value, is_usable}
pub use Rattle.rule_body.specs.Bodies.{AreHostLines, IsBody, IsTake, lines_of, no_line}
pub use Rattle.rule_body.specs.Rules.{AreRising, AreRules, IsRule}
