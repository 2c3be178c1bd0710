pub mod Crosses
pub mod Visited
pub mod Linked
pub mod Seats
pub mod Runs
pub mod Ends
pub mod Opened
