pub mod Shifts
pub mod Instances
pub mod Raised
pub mod Growth
pub mod Twice
pub mod Elsewhere
pub mod Fronts
pub mod Named
