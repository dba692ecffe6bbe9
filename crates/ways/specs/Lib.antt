pub mod Policies
pub mod Row
pub mod Slots
pub mod Ways
pub mod PoliciesLemmas
pub mod Members
pub mod Orders
