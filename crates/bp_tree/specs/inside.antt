pub mod Pending
pub mod Symbols
pub mod Header
