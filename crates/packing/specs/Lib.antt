pub mod Bytes
pub mod Packed
pub mod Promises
pub mod InCode
