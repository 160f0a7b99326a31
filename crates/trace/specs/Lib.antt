pub mod Number
pub mod Line
pub mod Lines
pub mod Run
pub mod Census
