mod Filling
mod Clearing
mod Heard
mod Parts
mod Renewing
mod Emptying
mod Opened
mod Forging
mod Steps
mod Promised
pub mod Sizes
pub mod Chains
mod Playing
