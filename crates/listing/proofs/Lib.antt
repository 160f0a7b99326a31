pub mod PrintLaws
pub mod SectionsLaws
