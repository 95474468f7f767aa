pub mod Sets
pub mod Laws
pub mod Standards
pub mod Stamps
