pub mod Table
pub mod Cache
pub mod Tidy
pub mod Stretch
pub mod Promise
pub mod Rows
