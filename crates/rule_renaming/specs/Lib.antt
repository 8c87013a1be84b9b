pub mod Plain
pub mod Examples
