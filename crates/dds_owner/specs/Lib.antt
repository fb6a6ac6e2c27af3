pub mod Registration
pub mod Restrengthening
pub mod First
pub mod Ranking
pub mod Standing
