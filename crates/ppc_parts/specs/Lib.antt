pub mod Meanings
pub mod Made
pub mod RecordingTerms
pub mod OperandTerms
pub mod Prelude
