pub mod Calls
pub mod Guests
pub mod Held
pub mod Numbers
pub mod States
