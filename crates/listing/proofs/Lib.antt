pub mod Halfway
pub mod WordSteps
pub mod OpSteps
