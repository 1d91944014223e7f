pub mod Filled
pub mod Reading
pub mod Layouts
pub mod Strips
pub mod Meanings
