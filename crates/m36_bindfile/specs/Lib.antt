pub mod BindFile
