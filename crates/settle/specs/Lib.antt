pub mod Sessions
pub mod Promise
pub mod Code
