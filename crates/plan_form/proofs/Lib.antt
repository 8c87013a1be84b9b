pub mod Bounds
pub mod Costs
pub mod Counts
mod Faulty
pub mod Indexes
mod Keyed
mod Parts
pub mod PlanGrammar
pub mod TextEnds
pub mod TextPrinted
pub mod TextWords
