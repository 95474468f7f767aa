pub mod Layering
pub mod OutcomeLogs
pub mod OutcomeSets
pub mod PerformingCalls
pub mod TellingCalls
pub mod Sufficing
