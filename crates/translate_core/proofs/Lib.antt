pub mod Carrying
pub mod Planning
