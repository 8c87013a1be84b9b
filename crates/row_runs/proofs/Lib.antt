pub mod Prompt
pub mod Loading
