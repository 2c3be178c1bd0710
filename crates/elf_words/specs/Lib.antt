pub mod Ehdr
pub mod Shdr
pub mod Sym
pub mod Rela
pub mod Phdr
