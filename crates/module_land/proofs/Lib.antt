pub mod Taken
pub mod Founds
pub mod Alone
