pub mod Steps
pub mod Tried
pub mod Free
pub mod CodePlace
pub mod OneFault
pub mod OneProgram
pub mod LowCode
pub mod Loaded
