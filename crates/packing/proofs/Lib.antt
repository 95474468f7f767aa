pub mod Parting
pub mod Turning
pub mod Asking
pub mod Law
pub mod Fitting
