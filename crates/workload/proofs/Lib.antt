pub mod Sizes
pub mod Symbols
