pub mod Accesses
pub mod Guests
pub mod Hosts
pub mod Inputs
pub mod Ends
pub mod Runs
