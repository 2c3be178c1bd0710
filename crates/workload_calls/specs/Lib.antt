pub mod Lines
pub mod Objects
pub mod Replies
pub mod Stream
pub mod Workload
