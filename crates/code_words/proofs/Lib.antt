pub mod CodeSegment
pub mod Words
