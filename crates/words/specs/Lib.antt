pub mod Bits
pub mod Table
