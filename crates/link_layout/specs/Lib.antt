pub mod Pieces
pub mod Slots
pub mod Layout
pub mod Program
pub mod IsLaid
pub mod inside
