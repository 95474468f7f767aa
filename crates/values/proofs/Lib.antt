pub mod Adding
pub mod Alike
pub mod Bytes
pub mod Counts
pub mod Seen
pub mod Texts
