pub mod Agreement
pub mod RowTables
pub mod Options
pub mod Putting
mod Limits
