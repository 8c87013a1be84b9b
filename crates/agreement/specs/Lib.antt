pub mod Plans
pub mod Written
pub mod Files
