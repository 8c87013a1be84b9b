pub mod Choosing
pub mod Alike
