pub mod PackedBytes
