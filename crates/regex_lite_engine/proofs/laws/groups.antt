-- what the groups of a match are
pub mod MarkedPassLemmas
pub mod MarkedTreeLemmas
pub mod MarkedWalkLemmas
pub mod MarkingLemmas
pub mod SpanLemmas
pub mod TakingCountLemmas
pub mod TakingPartLemmas
