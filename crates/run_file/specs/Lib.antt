pub mod Files
pub mod Headers
pub mod Lines
pub mod Votes
pub mod Texts
pub mod Listings
pub mod Promises
pub mod InCode
