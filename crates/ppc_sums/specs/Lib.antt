pub mod SumTerms
pub mod ProductTerms
pub mod ArithmeticTerms
