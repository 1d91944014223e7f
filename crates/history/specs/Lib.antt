pub mod Past
pub mod Keys
pub mod Law
pub mod Refused
pub mod Honest
pub mod Consequences
