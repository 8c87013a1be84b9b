pub mod ShiftTerms
pub mod LogicTerms
pub mod Meant
