pub mod Layout
pub mod Lists
pub mod Refusals
pub mod Requests
pub mod Results
pub mod Shown
pub mod Summaries
