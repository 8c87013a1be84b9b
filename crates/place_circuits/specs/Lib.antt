pub mod Places
pub mod Fields
pub mod Numbers
pub mod Sources
pub mod Results
pub mod Terms
