mod Edges
mod Leasts
pub mod Orders
mod Firsts
mod Chosen
mod Switches
mod Reaches
mod Reached
mod Forwards
mod Certificates
