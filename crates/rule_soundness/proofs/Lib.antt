pub mod Rows
pub mod Passing
pub mod Grammar
pub mod GuestTable
pub mod HostTable
