pub mod Lists
pub mod Coming
pub mod Answering
pub mod Completing
mod Ran
mod OneDue
mod Unread
mod RunDue
