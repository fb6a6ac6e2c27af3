pub mod FollowerLaws
pub mod RankLaws
