pub mod Coding
pub mod Export
pub mod Small
pub mod Run
pub mod RowLaws
