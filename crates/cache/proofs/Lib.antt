pub mod Evictions
pub mod Finds
pub mod Slots
