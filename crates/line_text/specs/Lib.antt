pub mod Lines
pub mod FirstBad
