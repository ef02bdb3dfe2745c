pub mod PointerPairs
