pub mod Rows
pub mod Fetched
pub mod States
pub mod Many
pub mod Asking
pub mod Special
pub mod Stepping
