pub mod OutputLaws
pub mod FactLaws
pub mod SectionLaws
