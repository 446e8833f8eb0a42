pub mod NumberLemmas
pub mod LineLemmas
