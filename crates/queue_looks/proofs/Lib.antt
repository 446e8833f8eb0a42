pub mod Common
pub mod Since
pub mod Settled
pub mod Ending
pub mod Work
pub mod Serves
pub mod Looks
