pub mod NameHashes
