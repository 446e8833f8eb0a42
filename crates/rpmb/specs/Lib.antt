pub mod System
pub mod Counter
