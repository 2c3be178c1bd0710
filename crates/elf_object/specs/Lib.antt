pub mod Stages
pub mod TablesOf
pub mod inside
