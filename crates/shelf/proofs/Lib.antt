pub mod Indexes
pub mod Moves
pub mod Searches
pub mod Shelves
