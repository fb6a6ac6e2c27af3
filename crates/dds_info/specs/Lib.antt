pub mod Followers
pub mod Ranking
