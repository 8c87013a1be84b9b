pub mod Maps
pub mod Candidates
pub mod Prices
pub mod Tables
pub mod Problem
pub mod Examples
