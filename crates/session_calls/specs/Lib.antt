pub mod Stdio
pub mod Socket
