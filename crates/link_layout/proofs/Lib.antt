pub mod ByPlace
pub mod Groups
pub mod Parts
pub mod Planned
pub mod Refused
pub mod Rest
pub mod Sized
pub mod Standing
