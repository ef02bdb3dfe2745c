pub mod CatalogRules
pub mod Deciding
pub mod FileReaders
pub mod EachFile
pub mod Catalogs
pub mod Writing
