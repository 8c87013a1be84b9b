pub mod Cuts
pub mod Hexadecimals
pub mod Lines
pub mod Grammars
pub mod Reading
