mod Announcing
mod Counting
mod Members
mod Pairs
mod Placing
mod Standing
mod Telling
