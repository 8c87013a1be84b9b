pub mod Laws
pub mod FlowWords
