pub mod Decoded
pub mod OwnKeys
