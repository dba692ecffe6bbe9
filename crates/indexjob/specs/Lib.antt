pub mod Angles
pub mod Job
