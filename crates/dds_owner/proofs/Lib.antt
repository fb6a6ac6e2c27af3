pub mod RegistrationLaws
pub mod StrengthLaws
pub mod RankingLaws
pub mod KeptLaws
