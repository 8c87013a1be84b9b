pub mod Lists
pub mod Guests
