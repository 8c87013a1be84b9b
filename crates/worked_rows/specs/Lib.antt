pub mod GuestRows
pub mod HostRows
pub mod HostCalls
