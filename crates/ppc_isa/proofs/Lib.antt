pub mod LocationSets
pub mod ReadWords
pub mod Readings
pub mod RowExamples
