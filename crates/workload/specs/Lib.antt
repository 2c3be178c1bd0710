pub mod Headers
pub mod Plain
pub mod Plan
pub mod Tables
