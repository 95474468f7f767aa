mod Counting
mod Choosing
mod Hearing
mod Phase
mod Course
pub mod Accepted
pub mod Joined
mod Calls
mod Agreeing
mod Comparing
mod AnyRounds
mod Published
mod AfterCalls
mod Rounding
mod Working
mod Showing
