mod Octets
mod Saying
mod Turning
