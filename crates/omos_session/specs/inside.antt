pub mod Given
pub mod Parts
