pub mod Putting
pub mod Ordered
pub mod Starting
pub mod Running
pub mod Following
pub mod Paired
pub mod Made
