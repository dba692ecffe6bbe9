pub mod Steps
pub mod Transfer
