pub mod Words
pub mod Numbers
pub mod Figures
pub mod Statements
pub mod Lines
pub mod InCode
pub mod Written
pub mod Scripts
