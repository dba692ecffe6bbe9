pub mod Answers
pub mod Guards
pub mod Images
pub mod Plains
pub mod Reach
pub mod TwoModules
