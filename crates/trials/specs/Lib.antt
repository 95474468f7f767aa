pub mod Leaving
pub mod Unlawful
pub mod Windows
pub mod Rising
pub mod Callers
pub mod Played
pub mod FirstRounds
pub mod Listed
