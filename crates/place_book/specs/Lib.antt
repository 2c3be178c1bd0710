pub use Rattle.omos_model.specs.Places
pub mod Books
pub mod Keys
pub mod Spans
pub mod Laws
