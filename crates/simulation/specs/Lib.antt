pub mod Windows
pub mod Context
pub mod Plan
pub mod Relation
pub mod Moves
pub mod Prelude
