pub mod Refusals
pub mod Rules
pub mod Added
pub mod Setpoints
pub mod Sheets
pub mod Counting
pub mod Cells
