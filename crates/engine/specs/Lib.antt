pub mod Transactions
pub mod Meaning
