pub mod Shift
pub mod Written
