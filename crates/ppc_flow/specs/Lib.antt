pub mod BranchTerms
pub mod TrapTerms
pub mod CompareTerms
pub mod FieldTerms
pub mod Meant
