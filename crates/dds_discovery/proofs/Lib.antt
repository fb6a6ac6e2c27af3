mod Apart
mod Causes
mod Delivering
mod Few
mod Going
mod Silence
mod Telling
