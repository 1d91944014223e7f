pub mod Meaning
pub mod Down
