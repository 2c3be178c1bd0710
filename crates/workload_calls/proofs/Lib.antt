pub mod Adding
pub mod Joined
pub mod Naming
pub mod Sizes
pub mod Summing
pub mod Talking
