pub mod Exits
pub mod ManagersPart
