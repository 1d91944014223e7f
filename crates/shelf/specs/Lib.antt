pub mod Index
pub mod Meaning
pub mod Search
