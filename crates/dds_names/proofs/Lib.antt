pub mod NameLaws
pub mod OpeningLaws
