pub mod Windows
pub mod Choices
pub mod Bodies
pub mod ChoiceTerms
pub mod WindowTerms
pub mod BodyTerms
