pub mod Edits
pub mod Places
pub mod Outcomes
