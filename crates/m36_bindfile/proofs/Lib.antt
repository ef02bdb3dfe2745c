pub mod BindLoops
