mod Saying
pub mod Lists
mod Delivering
mod Farewell
mod Datas
pub mod Members
mod Standing
mod Numbers
mod Lasting
mod Goings
mod Telling
