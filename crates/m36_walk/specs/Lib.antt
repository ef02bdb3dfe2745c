pub mod Memory
pub mod Runs
pub mod ReferenceResult
pub mod Served
pub mod Words
pub mod Lending
