pub mod Order
pub mod Meaning
pub mod Tables
pub mod Sheets
