pub mod Next
pub mod Enough
