pub mod CatalogRuleLaws
pub mod DecidingLaws
pub mod FileLaws
pub mod EachLaws
pub mod CatalogLaws
pub mod AlikeReaders
pub mod AreReaders
pub mod ReaderEnds
