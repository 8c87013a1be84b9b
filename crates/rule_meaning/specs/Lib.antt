pub mod Formula
pub mod Sound
