pub mod Fields
pub mod StartFields
pub mod BootLine
pub mod BootOrder
pub mod Catalog
pub mod IsCatalog
