pub mod Modules
pub mod Frame
pub mod Footprints
pub mod Stamps
pub mod Ranges
pub mod Short
pub mod Descents
pub mod Places
