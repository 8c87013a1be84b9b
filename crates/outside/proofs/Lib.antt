pub mod Under
pub mod Appending
pub mod Decimals
