pub mod Meaning
pub mod Conflicts
pub mod Memory
pub mod Validation
