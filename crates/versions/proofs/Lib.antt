pub mod Going
pub mod Keys
