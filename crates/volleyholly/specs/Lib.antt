pub mod Host
pub mod Piles
