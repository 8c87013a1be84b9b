pub mod Machine
pub mod Laws
pub mod Simulation
pub mod Example
pub mod Prelude
