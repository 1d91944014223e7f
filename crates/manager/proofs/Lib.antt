pub mod Seats
pub mod Taking
mod Least
mod Forgetting
