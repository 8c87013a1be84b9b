pub mod Reports
pub mod Memory
