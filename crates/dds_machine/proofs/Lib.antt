pub mod Tables
pub mod InTurn
pub mod Ticked
mod WorkedNotices
mod WorkedConditions
mod WorkedMatching
mod WorkedMeeting
