mod Ordered
mod Alike
mod Choices
mod Labels
mod Problems
mod Programs
mod Lists
