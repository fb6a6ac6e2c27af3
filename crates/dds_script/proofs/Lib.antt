pub mod LineLaws
mod NumberLaws
