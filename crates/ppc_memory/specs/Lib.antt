pub mod AccessTerms
pub mod LoadTerms
pub mod StoreTerms
pub mod Meant
