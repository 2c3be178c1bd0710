pub mod ByGroup
pub mod Fields
pub mod References
