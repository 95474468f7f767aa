pub mod Members
pub mod Bounds
pub mod Stamping
pub mod Table
