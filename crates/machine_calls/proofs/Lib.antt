pub mod Giving
pub mod Phases
