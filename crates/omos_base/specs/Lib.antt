pub mod Fault
pub mod Fields
pub mod Limits
pub mod Paths
pub mod Runs
pub mod SymNames
pub use Rattle.byteorder.specs.Endian
pub mod inside
