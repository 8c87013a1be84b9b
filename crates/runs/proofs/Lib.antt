pub mod Walking
pub mod Follow
pub mod Runs
pub mod Carried
