pub mod Bodies
pub mod Arranged
pub mod Layout
pub mod Meaning
