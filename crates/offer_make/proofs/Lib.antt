mod Numbers
pub mod Elements
mod Moving
mod Firsts
mod Counting
mod Boundary
mod Bounds
mod Pricing
mod Full
mod Problems
mod Examples
