pub mod Errands
pub mod Replies
pub mod Lines
pub mod Sending
pub mod Telling
pub mod Ends
pub mod Runs
