pub mod Accesses
pub mod Windows
pub mod Bodies
pub mod Oracles
