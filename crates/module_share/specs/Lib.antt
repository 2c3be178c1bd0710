pub mod Shifted
pub mod Instances
pub mod Places
pub mod Trails
