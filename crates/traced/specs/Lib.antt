pub mod States
pub mod Traced
pub mod TracedMeaning
