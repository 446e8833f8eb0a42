pub mod Runner
pub mod Calm
pub mod Advancing
pub mod Work
pub mod Waiting
pub mod Fault
pub mod Looks
pub mod Finishing
