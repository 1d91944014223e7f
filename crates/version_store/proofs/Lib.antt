pub mod Ascents
pub mod Lookups
pub mod Puts
