pub mod Pushed
pub mod Four
pub mod Shapes
pub mod Stored
pub mod Paired
