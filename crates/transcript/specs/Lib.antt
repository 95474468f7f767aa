pub mod Layers
pub mod Rows
pub mod Outcomes
pub mod Tallies
pub mod Told
pub mod Replays
