mod Cutting
mod Judging
mod Numbering
mod Setting
mod Rereading
mod RereadingCalls
