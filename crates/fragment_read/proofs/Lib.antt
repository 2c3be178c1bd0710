pub mod Right
pub mod RightEntries
pub mod Counted
pub mod Made
pub mod Whole
pub mod UsedMore
pub mod Gathering
