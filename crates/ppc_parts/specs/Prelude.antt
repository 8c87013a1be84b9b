-- What is cited of these specifications, for one `use` line.
pub use Rattle.ppc_parts.specs.Meanings.{EffectOwned, GivesEffect, IsOwned, effect_of, kind_of, values_of}
pub use Rattle.ppc_parts.specs.Made.{RowMade}
pub use Rattle.ppc_parts.specs.RecordingTerms.{compared_term, field_term, gives_a_term, gives_d_term, unchanged_term, with_xer}
pub use Rattle.ppc_parts.specs.OperandTerms.{base_term, extended_term}
