pub mod TrapTests
pub mod FieldMasks
