pub mod Listing
pub mod Program
pub mod Examples
