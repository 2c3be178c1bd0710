pub mod Visits
pub mod Fits
pub mod Slots
