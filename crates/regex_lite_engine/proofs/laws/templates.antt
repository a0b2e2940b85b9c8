pub mod PieceLemmas
pub mod OneTextLemmas
