pub mod Bytes
pub mod Items
pub mod Plans
pub mod Instance
pub mod Laws
pub mod Prelude
