pub mod BlockLemmas
pub mod FilterLemmas
pub mod LineLemmas
