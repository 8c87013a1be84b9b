pub mod Live
pub mod Flows
pub mod Namers
pub mod Growth
pub mod Laws
pub mod Prelude
