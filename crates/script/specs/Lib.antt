pub mod Line
pub mod Refusal
pub mod Script
pub mod Words
