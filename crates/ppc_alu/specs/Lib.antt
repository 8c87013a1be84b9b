pub mod RowTerms
