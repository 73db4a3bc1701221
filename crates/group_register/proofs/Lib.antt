pub mod Mapped
pub mod GroupLaws
pub mod GroupExamples
