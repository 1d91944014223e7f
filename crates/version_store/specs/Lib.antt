pub mod Laws
pub mod Making
pub mod Order
pub mod Putting
