pub mod Unwritten
pub mod Alikes
pub mod Guests
pub mod Loaded
pub mod Memory
pub mod Page
pub mod InPlace
pub mod Beginning
