pub mod Giving
pub mod Known
pub mod Written
pub mod Doors
