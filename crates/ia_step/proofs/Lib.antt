pub mod Asking
pub mod Cores
pub mod Fetching
pub mod Going
pub mod Memories
pub mod Resuming
pub mod Standing
pub mod Starting
