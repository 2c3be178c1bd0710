pub mod More
pub mod Exact
