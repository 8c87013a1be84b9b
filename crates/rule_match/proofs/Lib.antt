pub mod AnyMatch
pub mod Constants
pub mod FieldNumbers
pub mod LaidInstr
pub mod Pieces
pub mod SlotCounts
pub mod Windows
pub mod WrittenNumbers
