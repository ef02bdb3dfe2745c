pub mod Entries
pub mod LinkPlaces
pub mod StaticPlaces
