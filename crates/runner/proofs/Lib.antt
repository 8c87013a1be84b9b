mod Pieces
mod Taking
mod Answering
mod Runs
mod Called
mod Standing
mod GuestSteps
mod HostSteps
pub mod Whole
