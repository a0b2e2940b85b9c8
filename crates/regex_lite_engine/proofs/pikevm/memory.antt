pub mod CellLemmas
pub mod ListLemmas
pub mod TogetherLemmas
pub mod ViewLemmas
