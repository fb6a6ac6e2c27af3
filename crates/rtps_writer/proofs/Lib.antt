mod Parts
mod AnswerLaws
mod TickLaws
mod AcknackLaws
pub mod AnswerFacts
