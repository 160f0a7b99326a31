pub mod Print
pub mod Sections
pub mod Listing
